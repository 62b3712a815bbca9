-- Laws of the line sums: forms, magnitudes.
use Rattle.std.specs.Prelude.{◌≡◌, Bool, ◌&&◌, List, ℕ, zero, suc, ◌+◌, ◌-◌, ◌*◌, ◌≤◌, ◌<◌, leb, get_or, set, length, take, drop, ℤ, ◌+ℤ◌}
use Rattle.std.proofs.lemmas.List.{places}
use borrow.Rule.Slice.PartMut.{put_mid}
use Rattle.std.proofs.Math.Path.{refl, sym}
use Rattle.std.proofs.Common.{◌∙◌, add-one, length-set, ext_get_or, get_or-set_same, get_or-set_other}
use Rattle.std.proofs.Math.Bool.{true, false, cond}
use Rattle.std.proofs.Math.Decide.{dec_le, dec_lt, ℕ_discrete}
use native.Mathlib.Omega.{arith}
use borrow.Author.Tests.{lt-ltb, le-ltb, le-leb, lt-leb}
use Rattle.std.proofs.Math.Dec.{ltb}
use Rattle.std.proofs.Math.IntN.{pos, nat_abs, +ℤ_idr}
use Rattle.cdef_spec.specs.SignedLaws.{size-add}
use Rattle.cdef_spec.specs.Words.{sum_ℤ}
use Rattle.arith_sample.specs.Bounds.{Within}
use Rattle.arith_sample.specs.Upto.{upto, length-upto, get_or-upto, upto-ext, upto-all-of}
use Rattle.direction_lane_sums.specs.declared.Step.{Step}
use Rattle.direction_lane_sums.specs.declared.Step.TheVariants.{Same, Next, Back}
use Rattle.direction_lane_sums.specs.Lines.{neighbour_sum, neighbour_sums, added_at, added_of, sums_of, place_of, lane_lines}

below : (k n : ℕ) → k < suc n → (k ≡ n → ⊥) → k < n
below k n h q = go (dec_lt k n)
  where
    go : Dec (k < n) → k < n
    go (yes l) = l
    go (no l) = absurd (q (omega (arith, l)))

-- ---- a row that is added

module _ (z : List ℤ) (to from : ℕ) where
  pub add-size : (n m w : ℕ) → Within z w → nat_abs (added_at z to from n m) ≤ w
  unfolding added_at
  add-size n m w h = go (leb to m && ltb m (to + n))
    where
      go : (t : Bool) → nat_abs (cond t (get_or z (from + (m - to)) (pos 0)) (pos 0)) ≤ w
      go true = h.all (from + (m - to))
      go false = omega arith

-- ---- a row added to as many lines

module _ (p z : List ℤ) where
  pub row-none : p ≡ sums_of p z 0
  unfolding sums_of
  row-none = refl

  pub sums_next : (n : ℕ) (l : List ℤ) (v : ℤ) → l ≡ sums_of p z n → v ≡ get_or p n (pos 0) +ℤ get_or z n (pos 0) → set l n v ≡ sums_of p z (n + 1)
  unfolding sums_of
  sums_next n l v e g = rw (add-one n, e, g)

  pub length-sums : (n : ℕ) → length (sums_of p z n) ≡ length p
  unfolding sums_of
  length-sums zero = refl
  length-sums (suc n) = length-set (sums_of p z n) n _ ∙ length-sums n

  pub sums-past : (n k : ℕ) → n ≤ k → get_or (sums_of p z n) k (pos 0) ≡ get_or p k (pos 0)
  unfolding sums_of
  sums-past zero k h = refl
  sums-past (suc n) k h = get_or-set_other (sums_of p z n) n k _ (pos 0) (λ e. omega (arith, e)) ∙ sums-past n k (omega arith)

  pub sums_at : (n k : ℕ) → k < n → n ≤ length p → get_or (sums_of p z n) k (pos 0) ≡ get_or p k (pos 0) +ℤ get_or z k (pos 0)
  unfolding sums_of
  sums_at zero k h b = absurd (omega arith)
  sums_at (suc n) k h b = go (ℕ_discrete k n) (λ j. sums_at n k j (omega arith))
    where
      go : Dec (k ≡ n) → (k < n → get_or (sums_of p z n) k (pos 0) ≡ get_or p k (pos 0) +ℤ get_or z k (pos 0))
          → get_or (set (sums_of p z n) n (get_or p n (pos 0) +ℤ get_or z n (pos 0))) k (pos 0) ≡ get_or p k (pos 0) +ℤ get_or z k (pos 0)
      go (yes e) old = rw e (get_or-set_same (sums_of p z n) n _ (pos 0) (omega (arith, length-sums n)))
      go (no q) old = get_or-set_other (sums_of p z n) n k _ (pos 0) q ∙ old (let j : k < n = below k n h q in j)

-- a part of p, with a row of z added, in its place
pub added-mid : (p z part : List ℤ) (to from k e : ℕ) → k ≡ 64 → e ≡ 64 → length p ≡ 128 → to ≤ 64 → from + 64 ≤ length z
    → part ≡ sums_of (take k (drop to p)) (take e (drop from z)) 64 → put_mid to k p part ≡ added_of p z to from
unfolding added_of added_at
added-mid p z part to from k e ek ee hp ht hz q =
    let a : length (take k (drop to p)) ≡ 64 = grind (arith, places, ek, hp, ht) in
    let m : length part ≡ 64 = rw q (length-sums _ _ 64 ∙ a) in
    let w : length (put_mid to k p part) ≡ 128 = grind (arith, places, m, ek, hp, ht) in
    ext_get_or (pos 0) (put_mid to k p part) _ (w ∙ sym (length-upto _ 128)) (λ i l. let h : i < 128 = omega (arith, w) in go i h a m (dec_le to i) (dec_lt i (to + 64)) ∙ sym (get_or-upto _ 128 i (pos 0) h))
  where
    go : (i : ℕ) → i < 128 → length (take k (drop to p)) ≡ 64 → length part ≡ 64 → Dec (to ≤ i) → Dec (i < to + 64)
        → get_or (put_mid to k p part) i (pos 0) ≡ get_or p i (pos 0) +ℤ cond (leb to i && ltb i (to + 64)) (get_or z (from + (i - to)) (pos 0)) (pos 0)
    go i h a m (no x) y = let v : i < to = omega (arith, x) in rw (lt-leb to i v, +ℤ_idr (get_or p i (pos 0))) (grind (arith, places, m, ek, hp, v))
    go i h a m (yes x) (no y) =
        let v : to + 64 ≤ i = omega (arith, y) in
        rw (le-leb to i x, le-ltb i (to + 64) v, +ℤ_idr (get_or p i (pos 0))) (grind (arith, places, m, ek, hp, v))
    go i h a m (yes x) (yes y) =
        let j : i - to < 64 = omega arith in
        let b : get_or (put_mid to k p part) i (pos 0) ≡ get_or part (i - to) (pos 0) = grind (arith, places, m, ek, hp, x, y) in
        let c : get_or (take k (drop to p)) (i - to) (pos 0) ≡ get_or p i (pos 0) = grind (arith, places, ek, hp, x, y) in
        let d : get_or (take e (drop from z)) (i - to) (pos 0) ≡ get_or z (from + (i - to)) (pos 0) = grind (arith, places, ee, hz, j) in
        rw (le-leb to i x, lt-ltb i (to + 64) y) (b ∙ rw q (sums_at _ _ 64 (i - to) j (omega (arith, a)) ∙ rw (c, d)))

-- ---- the rows added up

module _ (z : List ℤ) (rows first : ℕ) (step : Step) where
  -- the sums of the first n rows
  pub sums_none : (k : ℕ) → upto (λ (m : ℕ). pos 0) k ≡ upto (λ m. sum_ℤ 0 (λ i. added_at z (place_of i rows first step * 8) (i * 64) 64 m)) k
  unfolding sum_ℤ
  sums_none k = refl

  pub sums-more : (n : ℕ) (p l : List ℤ) → p ≡ upto (λ m. sum_ℤ n (λ i. added_at z (place_of i rows first step * 8) (i * 64) 64 m)) 128
      → l ≡ added_of p z (place_of n rows first step * 8) (n * 64)
      → l ≡ upto (λ m. sum_ℤ (n + 1) (λ i. added_at z (place_of i rows first step * 8) (i * 64) 64 m)) 128
  unfolding sum_ℤ added_of
  sums-more n p l e g = g ∙ rw (add-one n) (upto-ext _ _ 128 (λ k h. rw (e, get_or-upto _ 128 k (pos 0) h)))

-- ---- magnitudes

sum-size : (f : ℕ → ℤ) (w : ℕ) → ((k : ℕ) → nat_abs (f k) ≤ w) → (n : ℕ) → nat_abs (sum_ℤ n f) ≤ n * w
unfolding sum_ℤ
sum-size f w h zero = omega arith
sum-size f w h (suc n) = omega (arith, sum-size f w h n, size-add (sum_ℤ n f) (f n), h n)

pub sums-within : (z : List ℤ) (rows first : ℕ) (step : Step) (n : ℕ) → Within z 256 → n ≤ 8 → Within (upto (λ m. sum_ℤ n (λ i. added_at z (place_of i rows first step * 8) (i * 64) 64 m)) 128) 2048
sums-within z rows first step n h hn = record { all = upto-all-of (λ (z : ℤ). nat_abs z ≤ 2048) _ 128 (pos 0) (λ m. at m) (omega arith) }
  where
    at : (m : ℕ) → nat_abs (sum_ℤ n (λ i. added_at z (place_of i rows first step * 8) (i * 64) 64 m)) ≤ 2048
    at m = omega (arith, sum-size (λ i. added_at z (place_of i rows first step * 8) (i * 64) 64 m) 256 (λ i. add-size z _ _ 64 m 256 h) n)

pub lines-within : (z : List ℤ) (rows first : ℕ) (step : Step) → Within z 256 → rows ≤ 8 → Within (lane_lines z rows first step) 2048
unfolding lane_lines
lines-within z rows first step h hr = sums-within z rows first step rows h hr

pub pair_size : (s : List ℤ) (at next l : ℕ) → Within s 128 → nat_abs (neighbour_sum s at next l) ≤ 256
unfolding neighbour_sum
pair_size s at next l h = omega (arith, size-add (get_or s (at + l) (pos 0)) (get_or s (at + next + l) (pos 0)), h.all (at + l), h.all (at + next + l))

pub pairs-within : (s : List ℤ) (down on next : ℕ) → Within s 128 → Within (neighbour_sums s down on next) 256
unfolding neighbour_sums
pairs-within s down on next h = record { all = upto-all-of (λ (z : ℤ). nat_abs z ≤ 256) _ 256 (pos 0) (λ k. pair_size s _ next _ h) (omega arith) }

pub length_pairs : (s : List ℤ) (down on next : ℕ) → length (neighbour_sums s down on next) ≡ 256
unfolding neighbour_sums
length_pairs s down on next = length-upto _ 256

-- ---- where a row starts

pub place-high : (i rows first : ℕ) (step : Step) → i < rows → place_of i rows first step ≤ first + (rows - 1)
unfolding place_of
place-high i rows first Same h = omega arith
place-high i rows first Next h = omega arith
place-high i rows first Back h = omega arith
