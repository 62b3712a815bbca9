-- Two rows of eight samples: where they lie, and what is kept of them.
use Rattle.std.specs.Prelude.{◌≡◌, ℕ, ◌+◌, ◌-◌, ◌*◌, ◌/◌, ◌%◌, ◌<◌, ◌≤◌, List, length, slice_index, slice_index_or}
use Rattle.std.proofs.Common.{ext_get_or, refl, sym, ap, ◌∙◌, inl, inr}
use native.Mathlib.Omega.{arith}
use Rattle.std.proofs.Math.Decide.{dec_le}
use Rattle.arith_sample.specs.Upto.{upto, length-upto, get_or-upto, upto-ext, upto-all-of}
use Rattle.filter_rows.specs.Place.{on_from, back_from}
use Rattle.filter_rows.specs.Pairs.{pair_of}
use Rattle.filter_rows.specs.Sums.{InRange, filtered_at}
use Rattle.filter_rows.specs.declared.Taps.{Taps}
use Rattle.filter_rows.specs.declared.Strength.{Strength}
use Rattle.filter_kernel.specs.Kernel.{kernel_at}
use Rattle.plane_taps.specs.Plain.{AllLow}
use Rattle.plane_taps.specs.PlainLaws.{both-plain}
use Rattle.plane_taps.specs.Reach.{Along}
use Rattle.plane_rows.specs.Rows.{pri_in, sec_in, placed, KernelRows}
use Rattle.plane_rows.specs.LaneLaws.{kernel-both}
use Rattle.plane_rows.specs.StoreLaws.{kept}
use Rattle.plane_bytes.specs.Byte.{Mask, both_of}
use Rattle.plane_bytes.specs.FinishLaws.{both_is}
use Rattle.plane_taps.specs.Runs.{Wide, at_by, run_by, on_by, back_by}
use Rattle.plane_bytes.specs.Eights.{AllByte, Strong8, eight_at}

-- ---- strengths

module _ {s sh near s2 sh2 : ℕ} (e : Strong8 s sh near s2 sh2) where
  pub pri-in : InRange (pri_in s sh near)
  unfolding pri_in
  pri-in = record { s = omega (arith, e.pri); sh = omega (arith, e.pri-shift); w0 = e.most; w1 = omega (arith, e.least) }

  pub sec-in : InRange (sec_in s2 sh2)
  unfolding sec_in
  sec-in = record { s = omega (arith, e.sec); sh = omega (arith, e.sec-shift); w0 = omega arith; w1 = omega arith }

  pub mask_is : {odd : ℕ} → odd ≡ (4 - near) * 255 → Mask odd
  mask_is {odd} h = go (dec_le near 3)
    where
      go : Dec (near ≤ 3) → Mask odd
      go (yes l) = record { is = inr (omega (arith, h, e.least)) }
      go (no l) = record { is = inl (omega (arith, h, e.most)) }

-- ---- places

pub wide_eight : Wide 8
wide_eight = record { is = inr refl }

pub along-eight : (w : ℕ) {len k o : ℕ} → Along len k (w + 8) o → Along len k ((16 / 8 - 1) * w + 8) o
along-eight w a = let e : (16 / 8 - 1) * w ≡ w = omega arith in rw e a

-- sample j of row i
pub eight-place : (w k i j : ℕ) → j < 8 → eight_at w k (i * 8 + j) ≡ k + i * w + j
unfolding at_by
eight-place w k i j h =
    let a : (i * 8 + j) / 8 ≡ i = omega arith in
    let b : (i * 8 + j) % 8 ≡ j = omega arith in
    rw (a, b) (omega arith)

-- ---- the samples

pub low_of : {l : List ℕ} → AllByte l → AllLow l
low_of b = record { all = λ k. omega (arith, b.all k) }

module _ (l : List ℕ) (b : AllByte l) (w k : ℕ) where
  chosen : (g : ℕ → ℕ) → AllByte (upto (λ j. slice_index l (g j)) 16)
  chosen g = record { all = upto-all-of (λ (v : ℕ). v < 256) (λ j. slice_index l (g j)) 16 0 (λ j. b.all (g j)) (omega arith) }

  pub run-byte : AllByte (run_by 8 l w k)
  unfolding run_by
  run-byte = chosen (eight_at w k)

  pub on-byte : (o : ℕ) → AllByte (on_by 8 l w k o)
  unfolding on_by
  on-byte o = chosen (λ j. on_from (eight_at w k j) o)

  pub back-byte : (o : ℕ) → AllByte (back_by 8 l w k o)
  unfolding back_by
  back-byte o = chosen (λ j. back_from (eight_at w k j) o)

-- sixteen entries one by one
pub entries : (v : List ℕ) → length v ≡ 16 → upto (slice_index v) 16 ≡ v
entries v e = ext_get_or 0 (upto (slice_index v) 16) v (length-upto (slice_index v) 16 ∙ sym e) (λ k l. get_or-upto (slice_index v) 16 k 0 (omega (arith, length-upto (slice_index v) 16)))

pub run-entries : (g : ℕ → ℕ) → upto (slice_index (upto g 16)) 16 ≡ upto g 16
run-entries g = entries (upto g 16) (length-upto g 16)

module _ (l : List ℕ) (w k n : ℕ) (h : n < 16) where
  pub centre-is : slice_index_or (run_by 8 l w k) n 0 ≡ slice_index l (eight_at w k n)
  unfolding run_by
  centre-is = get_or-upto (λ (j : ℕ). slice_index l (eight_at w k j)) 16 n 0 h

  on-is : (o : ℕ) → slice_index (on_by 8 l w k o) n ≡ slice_index l (on_from (eight_at w k n) o)
  unfolding on_by
  on-is o = get_or-upto (λ (j : ℕ). slice_index l (on_from (eight_at w k j) o)) 16 n 0 h

  back_is : (o : ℕ) → slice_index (back_by 8 l w k o) n ≡ slice_index l (back_from (eight_at w k n) o)
  unfolding back_by
  back_is o = get_or-upto (λ (j : ℕ). slice_index l (back_from (eight_at w k j) o)) 16 n 0 h

module _ (l : List ℕ) (b : AllByte l) (w k : ℕ) (t : Taps) (s sh near s2 sh2 : ℕ) (e : Strong8 s sh near s2 sh2) where
  lane : List ℕ → List ℕ → List ℕ → List ℕ → List ℕ → List ℕ → List ℕ → List ℕ → List ℕ → List ℕ → List ℕ → List ℕ → List ℕ → ℕ → ℕ
  lane c a0 b0 a1 b1 a2 b2 a3 b3 a4 b4 a5 b5 n = both_of (slice_index a0 n) (slice_index b0 n) (slice_index a1 n) (slice_index b1 n) (slice_index a2 n) (slice_index b2 n) (slice_index a3 n) (slice_index b3 n) (slice_index a4 n) (slice_index b4 n) (slice_index a5 n) (slice_index b5 n) (slice_index c n) s sh ((4 - near) * 255) s2 sh2

  one : (n : ℕ) → n < 16 → both_of (slice_index (on_by 8 l w k t.p0) n) (slice_index (back_by 8 l w k t.p0) n) (slice_index (on_by 8 l w k t.p1) n) (slice_index (back_by 8 l w k t.p1) n) (slice_index (on_by 8 l w k t.q0) n) (slice_index (back_by 8 l w k t.q0) n) (slice_index (on_by 8 l w k t.q1) n) (slice_index (back_by 8 l w k t.q1) n) (slice_index (on_by 8 l w k t.r0) n) (slice_index (back_by 8 l w k t.r0) n) (slice_index (on_by 8 l w k t.r1) n) (slice_index (back_by 8 l w k t.r1) n) (slice_index (run_by 8 l w k) n) s sh ((4 - near) * 255) s2 sh2 ≡ filtered_at l (eight_at w k n) t (pri_in s sh near) (sec_in s2 sh2)
  unfolding pair_of
  one n h = rw (centre-is l w k n h, on-is l w k n h t.p0, back_is l w k n h t.p0, on-is l w k n h t.p1, back_is l w k n h t.p1, on-is l w k n h t.q0, back_is l w k n h t.q0, on-is l w k n h t.q1, back_is l w k n h t.q1, on-is l w k n h t.r0, back_is l w k n h t.r0, on-is l w k n h t.r1, back_is l w k n h t.r1)
      (both_is _ _ _ _ _ _ _ _ _ _ _ _ _ s sh near s2 sh2 e.pri e.least e.most (b.all (eight_at w k n)) ∙ both-plain l (low_of b) (eight_at w k n) t (pri_in s sh near) (sec_in s2 sh2))

  -- the lists of taps, and what is computed of them
  pub both-eight : {r c a0 b0 a1 b1 a2 b2 a3 b3 a4 b4 a5 b5 : List ℕ} {odd : ℕ} → c ≡ run_by 8 l w k → a0 ≡ on_by 8 l w k t.p0 → b0 ≡ back_by 8 l w k t.p0 → a1 ≡ on_by 8 l w k t.p1 → b1 ≡ back_by 8 l w k t.p1 → a2 ≡ on_by 8 l w k t.q0 → b2 ≡ back_by 8 l w k t.q0 → a3 ≡ on_by 8 l w k t.q1 → b3 ≡ back_by 8 l w k t.q1 → a4 ≡ on_by 8 l w k t.r0 → b4 ≡ back_by 8 l w k t.r0 → a5 ≡ on_by 8 l w k t.r1 → b5 ≡ back_by 8 l w k t.r1 → odd ≡ (4 - near) * 255 → r ≡ upto (λ n. both_of (slice_index a0 n) (slice_index b0 n) (slice_index a1 n) (slice_index b1 n) (slice_index a2 n) (slice_index b2 n) (slice_index a3 n) (slice_index b3 n) (slice_index a4 n) (slice_index b4 n) (slice_index a5 n) (slice_index b5 n) (slice_index c n) s sh odd s2 sh2) 16 → r ≡ upto (λ n. filtered_at l (eight_at w k n) t (pri_in s sh near) (sec_in s2 sh2)) 16
  both-eight e0 e1 e2 e3 e4 e5 e6 e7 e8 e9 e10 e11 e12 eo er = er ∙ rw (e0, e1, e2, e3, e4, e5, e6, e7, e8, e9, e10, e11, e12, eo) (upto-ext _ _ 16 one)

-- ---- what is kept

module _ (l : List ℕ) (w at : ℕ) (t : Taps) (f g : Strength) (nf : f.s ≡ 0 → ⊥) (ng : g.s ≡ 0 → ⊥) where
  -- row r of the block is row i of the sixteen
  row_of : (v : List ℕ) (k r i j : ℕ) → v ≡ upto (λ n. filtered_at l (eight_at w k n) t f g) 16 → k + i * w ≡ at + r * w → i < 2 → j < 8 → slice_index v (i * 8 + j) ≡ kernel_at l (at + r * w + j) t f g
  row_of v k r i j e p hi hj =
      let q : k + i * w + j ≡ at + r * w + j = omega arith in
      rw e (get_or-upto (λ (n : ℕ). filtered_at l (eight_at w k n) t f g) 16 (i * 8 + j) 0 (omega arith) ∙ ap (λ (n : ℕ). filtered_at l n t f g) (eight-place w k i j hj ∙ q) ∙ kernel-both l (at + r * w + j) t f g nf ng)

  -- two rows more
  pub two-kept : (all last v : List ℕ) (i : ℕ) → v ≡ upto (λ n. filtered_at l (eight_at w (at + 2 * i * w) n) t f g) 16 → length all ≡ 64 → i < 4 → KernelRows l all w at t f g 8 (2 * i) → last ≡ placed all (i * 16) v 0 16 → KernelRows l last w at t f g 8 (2 * (i + 1))
  two-kept all last v i ev size hi old h =
      let s : i * 16 ≡ 2 * i * 8 = omega arith in
      let n : 2 * i + 2 ≡ 2 * (i + 1) = omega arith in
      rw n at (kept l w at t f g all last v (2 * i) 2 old (λ r j hr hj. row_of v (at + 2 * i * w) (2 * i + r) r j ev (omega arith) hr hj) (omega arith) (h ∙ rw s))
