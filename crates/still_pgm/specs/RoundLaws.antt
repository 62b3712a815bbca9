-- A picture that is decoded and encoded again: the bytes of its samples come back.
use Prim.Native.Nat.{ℕ, zero, suc, ◌+◌, ◌-◌, ◌*◌, ◌/◌, ◌%◌, ◌≤◌, ◌<◌, min}
use Rattle.std.specs.Prelude.{◌≡◌, Bool, List, eqb, length, set}
use Rattle.std.proofs.Math.Path.{refl}
use Rattle.std.proofs.Common.{◌∙◌, mod-lt, div-add-mod', div-lt_iff_lt-mul, mul_comm, get_or-set_same, get_or-set_other}
use Rattle.std.proofs.Math.Bool.{true, false, cond}
use Rattle.std.proofs.Math.Decide.{ℕ_discrete}
use native.Mathlib.Omega.{arith}
use Rattle.std.proofs.Math.Arith.{digits_lt, digits_div, digits_mod}
use Rattle.std.proofs.Math.Dec.{leb}
use Rattle.std.proofs.Math.ListN.{get_or}
use Rattle.still_pgm.specs.declared.header.Header.{Header}
use Rattle.still_pgm.specs.Sizes.{step_of, padded}
use Rattle.still_pgm.specs.SizesLaws.{Taken}
use Rattle.still_pgm.specs.Planes.{stored, sample_at, padded_sample, byte_of, file_byte}
use Rattle.still_pgm.specs.PlanesLaws.{length-stored}

-- ---- a value that was stored

get_or-stored : (f : ℕ → ℕ) (l : List ℕ) (n k : ℕ) → k < n → n ≤ length l → get_or (stored f n l) k 0 ≡ f k
unfolding stored
get_or-stored f l zero k a b = absurd (omega arith)
get_or-stored f l (suc n) k a b = go (ℕ_discrete k n) (λ c. get_or-stored f l n k c (omega arith))
  where
    go : Dec (k ≡ n) → (k < n → get_or (stored f n l) k 0 ≡ f k) → get_or (set (stored f n l) n (f n)) k 0 ≡ f k
    go (yes e) ih = rw e (get_or-set_same (stored f n l) n (f n) 0 (omega (arith, length-stored f l n)))
    go (no g) ih = get_or-set_other (stored f n l) n k (f n) 0 g ∙ ih (omega arith)

-- ---- the position of sample q in a plane of longer rows

module _ (w h pitch q : ℕ) (low : 0 < w) (wide : w ≤ pitch) (inside : q < h * w) where
  row_low : q / w < h
  row_low = (div-lt_iff_lt-mul low).1 inside

  column-low : q % w < pitch
  column-low = omega (arith, mod-lt q {m = w} low)

  place-low : (rows : ℕ) → h ≤ rows → q / w * pitch + q % w < pitch * rows
  place-low rows g = rw (mul_comm pitch rows) (digits_lt {q = q / w} {m = rows} {r = q % w} {c = pitch} (omega (arith, row_low)) column-low)

  place-back : min ((q / w * pitch + q % w) / pitch) (h - 1) * w + min ((q / w * pitch + q % w) % pitch) (w - 1) ≡ q
  place-back =
      let a : (q / w * pitch + q % w) / pitch ≡ q / w = digits_div (q / w) {m = pitch} {r = q % w} column-low in
      let b : (q / w * pitch + q % w) % pitch ≡ q % w = digits_mod (q / w) {m = pitch} {r = q % w} column-low in
      let c : min (q / w) (h - 1) ≡ q / w = omega (arith, row_low) in
      let d : min (q % w) (w - 1) ≡ q % w = omega (arith, mod-lt q {m = w} low) in
      rw (a, b, c, d) (div-add-mod' q w)

-- ---- the bytes of a sample

module _ (samples : List ℕ) (k : ℕ) (bytes : (i : ℕ) → get_or samples i 0 < 256) where
  one_byte : byte_of (sample_at samples 1 (k / 1)) (eqb (k % 1 + 1) 1) ≡ get_or samples k 0
  unfolding byte_of sample_at
  one_byte =
      let a : k / 1 ≡ k = omega arith in
      let b : k % 1 + 1 ≡ 1 = omega arith in
      rw (a, b) (omega (arith, bytes k))

  two_bytes : byte_of (sample_at samples 2 (k / 2)) (eqb (k % 2 + 1) 2) ≡ get_or samples k 0
  unfolding byte_of sample_at
  two_bytes = go (ℕ_discrete (k % 2) 1)
    where
      go : Dec (k % 2 ≡ 1) → cond (eqb (k % 2 + 1) 2) ((get_or samples (2 * (k / 2)) 0 * 256 + get_or samples (2 * (k / 2) + 1) 0) % 256) ((get_or samples (2 * (k / 2)) 0 * 256 + get_or samples (2 * (k / 2) + 1) 0) / 256) ≡ get_or samples k 0
      go (yes e) =
          let a : 2 * (k / 2) + 1 ≡ k = omega arith in
          rw (e, a) (omega (arith, bytes k))
      go (no f) =
          let a : 2 * (k / 2) ≡ k = omega arith in
          let b : k % 2 + 1 ≡ 1 = omega arith in
          rw (b, a) (omega (arith, bytes (k + 1)))

-- ---- the picture

module _ (samples : List ℕ) (h : Header) (l : List ℕ) (t : Taken h.width h.height) (fits : padded h.width * padded h.height ≤ length l) where
  abbrev decoded : List ℕ
  decoded = stored (padded_sample samples h (padded h.width)) (padded h.width * padded h.height) l

  by-sample : (step k : ℕ) → 0 < step → k < h.height * h.width * step
      → file_byte decoded h.width (padded h.width) step k ≡ byte_of (sample_at samples (step_of h.maximum) (k / step)) (eqb (k % step + 1) step)
  unfolding file_byte padded_sample
  by-sample step k low inside =
      let q : ℕ = k / step in
      let a : q < h.height * h.width = (div-lt_iff_lt-mul low).1 inside in
      let wide : h.width ≤ padded h.width = omega arith in
      let tall : h.height ≤ padded h.height = omega arith in
      let b = get_or-stored (padded_sample samples h (padded h.width)) l (padded h.width * padded h.height) (q / h.width * padded h.width + q % h.width) (place-low h.width h.height (padded h.width) q t.width_low wide a (padded h.height) tall) fits in
      rw (b, place-back h.width h.height (padded h.width) q t.width_low wide a)

  -- each byte of the samples comes back
  pub round : ((i : ℕ) → get_or samples i 0 < 256) → (k : ℕ) → k < h.height * h.width * step_of h.maximum → file_byte decoded h.width (padded h.width) (step_of h.maximum) k ≡ get_or samples k 0
  unfolding step_of
  round bytes k inside = go (leb h.maximum 255) refl inside
    where
      go : (b : Bool) → leb h.maximum 255 ≡ b → k < h.height * h.width * cond b 1 2 → file_byte decoded h.width (padded h.width) (cond b 1 2) k ≡ get_or samples k 0
      go true e i = by-sample 1 k (omega arith) i ∙ rw e (one_byte samples k bytes)
      go false e i = by-sample 2 k (omega arith) i ∙ rw e (two_bytes samples k bytes)
