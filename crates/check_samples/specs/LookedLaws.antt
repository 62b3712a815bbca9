-- The samples examined are below 2 ^ depth where their combined bits are, and so is each sample that a block reads, past the right or bottom edge too.
use Rattle.std.specs.Prelude.{◌≡◌, Bool, true, ◌&&◌, List, ltb, eqb, get_or, length}
use Rattle.std.proofs.Math.Path.{refl, ap}
use Rattle.std.proofs.Common.{◌∙◌, div-lt_iff_lt-mul, add-one, pow_pos}
use Prim.Native.Nat.{ℕ, zero, suc, ◌+◌, ◌-◌, ◌*◌, ◌/◌, ◌^◌, ◌≤◌, ◌<◌, min}
use Rattle.std.proofs.Math.Decide.{dec_lt}
use native.Mathlib.Omega.{arith}
use borrow.Author.Tests.{lt-ltb, le-ltb, ltb-true, eq-eqb, ne_eqb}
use Rattle.std.specs.Int.Bits.{bit_or, or_add_and}
use Rattle.std.specs.List.{fold}
use Rattle.std.proofs.Math.ListN.{take, drop}
use Rattle.std.proofs.lemmas.List.{get_or-drop, length-drop}
use Rattle.std.proofs.lemmas.List.Sums.{fold_more}
use Rattle.std.proofs.lemmas.Nat.{or_lt, and_le_l, and_le_r}
use Rattle.cdef_spec.specs.Words.{every}
use Rattle.cdef_spec.specs.WordsLaws.{every-at}
use Rattle.cdef_spec.specs.Document01.{Plane, edge_sample}
use Rattle.cdef_spec.specs.Questions.{sample_taken, looked_at, cut_taken}
use Rattle.check_samples.specs.Looked.{or_row, or_rows}

-- ---- bits

or-high : (a b : ℕ) → (a ≤ bit_or a b) × (b ≤ bit_or a b)
or-high a b = (omega (arith, or_add_and a b, and_le_r a b), omega (arith, or_add_and a b, and_le_l a b))

pub or-below : (k a b : ℕ) → ltb (bit_or a b) (2 ^ k) ≡ ltb a (2 ^ k) && ltb b (2 ^ k)
or-below k a b = go (dec_lt a (2 ^ k)) (dec_lt b (2 ^ k))
  where
    go : Dec (a < 2 ^ k) → Dec (b < 2 ^ k) → ltb (bit_or a b) (2 ^ k) ≡ ltb a (2 ^ k) && ltb b (2 ^ k)
    go (yes h) (yes g) = rw (lt-ltb a (2 ^ k) h, lt-ltb b (2 ^ k) g) (lt-ltb (bit_or a b) (2 ^ k) (or_lt k a b h g))
    go (yes h) (no g) =
        let l : 2 ^ k ≤ b = omega arith in
        let m : 2 ^ k ≤ bit_or a b = omega (arith, (or-high a b).1) in
        rw (lt-ltb a (2 ^ k) h, le-ltb b (2 ^ k) l) (le-ltb (bit_or a b) (2 ^ k) m)
    go (no h) g =
        let l : 2 ^ k ≤ a = omega arith in
        let m : 2 ^ k ≤ bit_or a b = omega (arith, (or-high a b).0) in
        rw (le-ltb a (2 ^ k) l) (le-ltb (bit_or a b) (2 ^ k) m)

-- no bit is set from bit k on, as a test
pub shifted_none : (a k : ℕ) → eqb (a / 2 ^ k) 0 ≡ ltb a (2 ^ k)
shifted_none a k = go (dec_lt a (2 ^ k))
  where
    low : a < 1 * 2 ^ k → a / 2 ^ k < 1
    low h = (div-lt_iff_lt-mul {y = 1} (pow_pos k)).1 h

    go : Dec (a < 2 ^ k) → eqb (a / 2 ^ k) 0 ≡ ltb a (2 ^ k)
    go (yes h) = let z : a / 2 ^ k ≡ 0 = omega (arith, low (omega arith)) in rw (lt-ltb a (2 ^ k) h) (eq-eqb (a / 2 ^ k) 0 z)
    go (no h) =
        let g : 2 ^ k ≤ a = omega arith in
        rw (le-ltb a (2 ^ k) g) (ne_eqb (a / 2 ^ k) 0 (λ z. h (back z)))
      where
        back : a / 2 ^ k ≡ 0 → a < 2 ^ k
        back z = let l : a < 1 * 2 ^ k = (div-lt_iff_lt-mul {y = 1} (pow_pos k)).0 (omega arith) in omega arith

module _ (s : List ℕ) where
  -- the bits of a slice
  pub row-of : (at n : ℕ) → at + n ≤ length s → fold bit_or 0 (take n (drop at s)) ≡ or_row s at n
  unfolding or_row
  row-of at zero h = refl
  row-of at (suc n) h =
      let l : n < length (drop at s) = omega (arith, length-drop at s) in
      rw (← add-one n) (fold_more bit_or 0 (drop at s) n 0 l ∙ rw (row-of at n (omega arith), get_or-drop at s n 0))

  pub rows_none : (w y x cols : ℕ) → 0 ≡ or_rows s w y x cols 0
  unfolding or_rows
  rows_none w y x cols = refl

  pub rows_more : (w y x cols n : ℕ) → bit_or (or_rows s w y x cols n) (or_row s ((y + n) * w + x) cols) ≡ or_rows s w y x cols (n + 1)
  unfolding or_rows
  rows_more w y x cols n = rw (add-one n)

  module _ (d : ℕ) where
    pub row_below : (at n : ℕ) → ltb (or_row s at n) (2 ^ d) ≡ every n (λ j. sample_taken d (get_or s (at + j) 0))
    unfolding or_row every sample_taken
    row_below at zero = lt-ltb 0 (2 ^ d) (pow_pos d)
    row_below at (suc n) = or-below d (or_row s at n) (get_or s (at + n) 0) ∙ rw (row_below at n)

    rows-below : (w y x cols n : ℕ) → ltb (or_rows s w y x cols n) (2 ^ d) ≡ every n (λ i. every cols (λ j. sample_taken d (get_or s ((y + i) * w + x + j) 0)))
    unfolding or_rows every
    rows-below w y x cols zero = lt-ltb 0 (2 ^ d) (pow_pos d)
    rows-below w y x cols (suc n) = or-below d (or_rows s w y x cols n) (or_row s ((y + n) * w + x) cols) ∙ rw (rows-below w y x cols n, row_below ((y + n) * w + x) cols)

-- the tests of the first n entries, taken together
pub every-of : (f : ℕ → Bool) (l : List ℕ) (n : ℕ) → n ≤ length l → fold (λ t x. t && f x) true (take n l) ≡ every n (λ k. f (get_or l k 0))
unfolding every
every-of f l zero h = refl
every-of f l (suc n) h = rw (← add-one n) (fold_more (λ t x. t && f x) true l n 0 (omega arith) ∙ rw (every-of f l n (omega arith)))

every-same : (n : ℕ) (f g : ℕ → Bool) → ((k : ℕ) → f k ≡ g k) → every n f ≡ every n g
unfolding every
every-same zero f g h = refl
every-same (suc n) f g h = rw (every-same n f g h, h n)

-- ---- the block cropped to the plane

abbrev sized : List ℕ → ℕ → ℕ → Plane
sized s w h = record { samples = s; width = w; height = h }

module _ (s : List ℕ) (w h d y x : ℕ) (hy : y < h) (hx : x < w) where
  pub cut-bits : ltb (or_rows s w y x (min 8 (w - x)) (min 8 (h - y))) (2 ^ d) ≡ cut_taken (sized s w h) d y x
  unfolding cut_taken looked_at
  cut-bits =
      let r : min (y + 8) h - y ≡ min 8 (h - y) = omega arith in
      let c : min (x + 8) w - x ≡ min 8 (w - x) = omega arith in
      rw (r, c) (rows-below s d w y x (min 8 (w - x)) (min 8 (h - y)) ∙ every-same (min 8 (h - y)) _ _ (λ i. every-same (min 8 (w - x)) _ _ (λ j. ap (λ (k : ℕ). sample_taken d (get_or s k 0)) (omega arith))))

  module _ (cut : cut_taken (sized s w h) d y x ≡ true) where
    looked : (i j : ℕ) → i < min (y + 8) h - y → j < min (x + 8) w - x → get_or s ((y + i) * w + (x + j)) 0 < 2 ^ d
    unfolding cut_taken looked_at sample_taken
    looked i j hi hj = ltb-true _ (2 ^ d) (every-at _ _ (every-at _ _ cut i hi) j hj)

    -- past the right or bottom edge too: the nearest sample is examined
    pub edge-low : (i j : ℕ) → i < 8 → j < 8 → edge_sample (sized s w h) (y + i) (x + j) < 2 ^ d
    unfolding edge_sample
    edge-low i j hi hj =
        let r : min (y + i) (h - 1) ≡ y + (min (y + i) (h - 1) - y) = omega arith in
        let c : min (x + j) (w - 1) ≡ x + (min (x + j) (w - 1) - x) = omega arith in
        rw (r, c) (looked (min (y + i) (h - 1) - y) (min (x + j) (w - 1) - x) (omega arith) (omega arith))
