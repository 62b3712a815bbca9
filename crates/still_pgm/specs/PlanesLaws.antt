-- Laws of the padded plane of a file and of a plane as bytes: one more element stored, a sample of one byte and of two.
use Rattle.std.specs.Prelude.{◌≡◌, List, ◌++◌, eqb, get_or, length, set}
use Rattle.std.proofs.Math.Path.{refl}
use Rattle.std.proofs.Common.{ap, ◌∙◌, mul-le-mul, le_trans, div-le_self, add-one, arith}
use Prim.Native.Nat.{ℕ, zero, suc, ◌+◌, ◌-◌, ◌*◌, ◌/◌, ◌%◌, ◌≤◌, ◌<◌, min}
use Rattle.std.proofs.Math.Nat.{mod-le}
use Rattle.std.proofs.Math.ListN.{length-set}
use Rattle.std.proofs.lemmas.List.{set-append_left}
use Rattle.still_pgm.specs.declared.header.Header.{Header}
use Rattle.still_pgm.specs.Sizes.{step_of}
use Rattle.still_pgm.specs.Planes.{stored, sample_at, padded_sample, byte_of, file_byte}

-- ---- values stored from the front

module _ (f : ℕ → ℕ) (l : List ℕ) where
  pub stored_none : stored f 0 l ≡ l
  unfolding stored
  stored_none = refl

  pub stored_more : (n v : ℕ) (m : List ℕ) → m ≡ stored f n l → v ≡ f n → set m n v ≡ stored f (n + 1) l
  unfolding stored
  stored_more n v m e g = rw (add-one n, e, g)

  pub length-stored : (n : ℕ) → length (stored f n l) ≡ length l
  unfolding stored
  length-stored zero = refl
  length-stored (suc n) = length-set (stored f n l) n (f n) ∙ length-stored n

-- stored in the front of a list, and what is behind it as it was
pub stored_front : (f : ℕ → ℕ) (n : ℕ) (a b : List ℕ) → n ≤ length a → stored f n (a ++ b) ≡ stored f n a ++ b
unfolding stored
stored_front f zero a b h = refl
stored_front f (suc n) a b h = ap (λ l. set l n (f n)) (stored_front f n a b (omega arith)) ∙ set-append_left (stored f n a) b n (f n) (omega (arith, length-stored f a n))

-- ---- samples

-- sample k of a plane, from its row, its column and the bytes of a sample
pub padded_is : (samples : List ℕ) (h : Header) (pitch k step row column v : ℕ) → step ≡ step_of h.maximum → row ≡ min (k / pitch) (h.height - 1) → column ≡ min (k % pitch) (h.width - 1) → v ≡ sample_at samples step (row * h.width + column) → v ≡ padded_sample samples h pitch k
unfolding padded_sample
padded_is samples h pitch k step row column v e r c g = rw (← e, ← r, ← c) g

-- a row and a column of the picture lie among its samples
pub place_room : (w h row column : ℕ) → w ≤ 4096 → row < h → h ≤ 4096 → column < w → (row * w ≤ 4095 * 4096) × (row * w + column < 4096 * 4096)
place_room w h row column a b c d =
    let e : row ≤ 4095 = omega arith in
    let f : row * w ≤ 4095 * 4096 = mul-le-mul e a in
    (f, omega arith)

-- ---- encoding

pub byte_is : (plane : List ℕ) (width pitch step k sample v : ℕ) → sample ≡ get_or plane (k / step / width * pitch + k / step % width) 0 → v ≡ byte_of sample (eqb (k % step + 1) step) → v ≡ file_byte plane width pitch step k
unfolding file_byte
byte_is plane width pitch step k sample v e g = rw (← e) g

-- the position of a byte's sample in a plane with rows of at most 4,096
pub byte_room : (k step width pitch : ℕ) → k ≤ 1572864 → pitch ≤ 4096 → (k / step / width * pitch ≤ 1572864 * 4096) × (k / step / width * pitch + k / step % width ≤ 1572864 * 4096 + 1572864)
byte_room k step width pitch a b =
    let c : k / step ≤ 1572864 = le_trans (div-le_self k step) a in
    let d : k / step / width ≤ 1572864 = le_trans (div-le_self (k / step) width) c in
    let e : k / step / width * pitch ≤ 1572864 * 4096 = mul-le-mul d b in
    (e, omega (arith, mod-le (k / step) width))
