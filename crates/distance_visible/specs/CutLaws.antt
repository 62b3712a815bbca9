-- Laws of the distance of the visible part of a block: it is that of RULES, Frame, depends on that part only, and is below 2 ^ 53.
use Rattle.std.specs.Prelude.{◌≡◌, Bool, ◌&&◌, List, ℕ, ◌+◌, ◌*◌, ◌/◌, ◌%◌, ◌^◌, ◌≤◌, ◌<◌, eqb, Option, Some, None}
use Rattle.std.specs.Bool.{then_some}
use Rattle.std.proofs.Math.Path.{refl}
use Rattle.std.proofs.Common.{sym, subst, ◌∙◌, lt_of_lt_of_le, arith, pow_mono}
use Rattle.std.proofs.Math.Bool.{true, false, cond}
use Rattle.std.proofs.lemmas.Option.{none-some, same_Some}
use borrow.Author.Tests.{eq-eqb, eqb-true}
use Rattle.cdef_spec.specs.declared.DistanceConstants.{DistanceConstants}
use Rattle.cdef_spec.specs.Words.{table}
use Rattle.cdef_spec.specs.WordsLaws.{get_or-table, and_both}
use Rattle.cdef_spec.specs.Distance.{squares, constants_of, weighted_distance}
use Rattle.cdef_spec.specs.Picture.{luma, chroma, distance_of}
use Rattle.distance_weight.specs.Weighing.{OfDepth}
use Rattle.distance_sums.specs.Blocks.{at, cell, block_of, Below, Within, weighted_by}
use Rattle.distance_sums.specs.BlockLaws.{block-cell, squares-same, squares-high}
use Rattle.distance_block.specs.WeightedLaws.{weighted-same, weighted-64-low}
use Rattle.distance_visible.specs.Cut.{cut_distance, Weights}

-- ---- the two cases

pub cut-chroma : (rows cols : ℕ) (o d : ℕ → ℕ → ℕ) → cut_distance None rows cols o d ≡ squares rows cols o d
unfolding cut_distance
cut-chroma rows cols o d = refl

module _ (c : DistanceConstants) (rows cols : ℕ) (o d : ℕ → ℕ → ℕ) where
  pub cut-whole : rows ≡ 8 → cols ≡ 8 → cut_distance (Some c) rows cols o d ≡ weighted_by c o d
  unfolding cut_distance
  cut-whole er ec = rw (eq-eqb rows 8 er, eq-eqb cols 8 ec)

  pub cut-part : (rows ≡ 8 → cols ≡ 8 → ⊥) → cut_distance (Some c) rows cols o d ≡ squares rows cols o d
  unfolding cut_distance
  cut-part n = go (eqb rows 8) (eqb cols 8) (λ e f. n (eqb-true rows 8 e) (eqb-true cols 8 f))
    where
      go : (s t : Bool) → (s ≡ true → t ≡ true → ⊥) → cond (s && t) (weighted_by c o d) (squares rows cols o d) ≡ squares rows cols o d
      go true true g = absurd (g refl refl)
      go true false g = refl
      go false t g = refl

-- the distance of RULES, Frame, in a luma plane and in a chroma one
pub cut-is : (b : Bool) (vars : List ℕ) (sx sy depth rows cols : ℕ) (o d : ℕ → ℕ → ℕ) → cut_distance (then_some b (constants_of depth)) rows cols o d ≡ distance_of (cond b (luma vars) (chroma sx sy)) depth rows cols o d
unfolding cut_distance distance_of weighted_by weighted_distance
cut-is true vars sx sy depth rows cols o d = refl
cut-is false vars sx sy depth rows cols o d = refl

-- a plane's constants are its depth's
pub weights-of : (b : Bool) (c : DistanceConstants) (depth : ℕ) → OfDepth c depth → Weights (then_some b c) depth
weights-of true c depth k = record { flat = k.flat; of_depth = λ d e. subst (λ (x : DistanceConstants). OfDepth x depth) (same_Some c d e) k }
weights-of false c depth k = record { flat = k.flat; of_depth = λ d e. absurd (none-some d e) }

-- ---- it depends on the visible part only

both-eight : (rows cols : ℕ) → (eqb rows 8 && eqb cols 8) ≡ true → (rows ≡ 8) × (cols ≡ 8)
both-eight rows cols t = let u = and_both (eqb rows 8) (eqb cols 8) t in (eqb-true rows 8 u.0, eqb-true cols 8 u.1)

pub cut-same : (w : Option DistanceConstants) (rows cols : ℕ) (o p d e : ℕ → ℕ → ℕ) → ((i j : ℕ) → i < rows → j < cols → o i j ≡ p i j) → ((i j : ℕ) → i < rows → j < cols → d i j ≡ e i j)
    → cut_distance w rows cols o d ≡ cut_distance w rows cols p e
unfolding cut_distance
cut-same None rows cols o p d e h g = squares-same rows cols o p d e h g
cut-same (Some c) rows cols o p d e h g = go (eqb rows 8 && eqb cols 8) (both-eight rows cols)
  where
    go : (t : Bool) → (t ≡ true → (rows ≡ 8) × (cols ≡ 8)) → cond t (weighted_by c o d) (squares rows cols o d) ≡ cond t (weighted_by c p e) (squares rows cols p e)
    go true f = let er = (f refl).0 in let ec = (f refl).1 in weighted-same c o p d e (λ i j hi hj. h i j (omega arith) (omega arith)) (λ i j hi hj. g i j (omega arith) (omega arith))
    go false f = squares-same rows cols o p d e h g

-- ---- it is below 2 ^ 53

-- 64 samples by row and column
listed : (ℕ → ℕ → ℕ) → List ℕ
listed o = table 64 (λ k. o (k / 8) (k % 8))

listed-cell : (o : ℕ → ℕ → ℕ) (i j : ℕ) → i < 8 → j < 8 → o i j ≡ cell (listed o) i j
unfolding cell listed
listed-cell o i j hi hj =
    let a : (i * 8 + j) / 8 ≡ i = omega arith in
    let b : (i * 8 + j) % 8 ≡ j = omega arith in
    sym (get_or-table 64 (λ k. o (k / 8) (k % 8)) 0 (i * 8 + j) (omega arith) ∙ rw (a, b))

listed_below : (m : ℕ) (o : ℕ → ℕ → ℕ) → ((i j : ℕ) → i < 8 → j < 8 → o i j < m) → Below (listed o) m
unfolding listed
listed_below m o h = record { each = λ k l. rw (get_or-table 64 (λ k. o (k / 8) (k % 8)) 0 k l) (h (k / 8) (k % 8) (omega arith) (omega arith)) }

weighted-low : (c : DistanceConstants) (depth : ℕ) (o d : ℕ → ℕ → ℕ) → OfDepth c depth → ((i j : ℕ) → i < 8 → j < 8 → (o i j < 2 ^ depth) × (d i j < 2 ^ depth)) → weighted_by c o d < 2 ^ 53
weighted-low c depth o d k h =
    rw (weighted-same c o (cell (listed o)) d (cell (listed d)) (listed-cell o) (listed-cell d))
    (weighted-64-low c depth (listed o) (listed d) k (listed_below (2 ^ depth) o (λ i j hi hj. (h i j hi hj).0)) (listed_below (2 ^ depth) d (λ i j hi hj. (h i j hi hj).1)))

plain-low : (depth rows cols : ℕ) (o d : ℕ → ℕ → ℕ) → rows ≤ 8 → cols ≤ 8 → depth ≤ 12 → ((i j : ℕ) → i < rows → j < cols → (o i j < 2 ^ depth) × (d i j < 2 ^ depth)) → squares rows cols o d < 2 ^ 53
plain-low depth rows cols o d hr hc k h =
    let p : 2 ^ depth ≤ 2 ^ 12 = pow_mono {i = depth} {j = 12} k in
    let s = squares-high rows cols o d hr hc (λ i j hi hj. (lt_of_lt_of_le (h i j hi hj).0 p, lt_of_lt_of_le (h i j hi hj).1 p)) in
    omega (arith, s)

pub cut_low : (w : Option DistanceConstants) (depth rows cols : ℕ) (o d : ℕ → ℕ → ℕ) → rows ≤ 8 → cols ≤ 8 → Weights w depth → ((i j : ℕ) → i < rows → j < cols → (o i j < 2 ^ depth) × (d i j < 2 ^ depth)) → cut_distance w rows cols o d < 2 ^ 53
unfolding cut_distance
cut_low None depth rows cols o d hr hc k h = plain-low depth rows cols o d hr hc k.flat h
cut_low (Some c) depth rows cols o d hr hc k h = go (eqb rows 8 && eqb cols 8) (both-eight rows cols)
  where
    go : (t : Bool) → (t ≡ true → (rows ≡ 8) × (cols ≡ 8)) → cond t (weighted_by c o d) (squares rows cols o d) < 2 ^ 53
    go true f = let er = (f refl).0 in let ec = (f refl).1 in weighted-low c depth o d (k.of_depth c refl) (λ i j hi hj. h i j (omega arith) (omega arith))
    go false f = plain-low depth rows cols o d hr hc k.flat h

-- ---- by the 64 samples of a whole block

pub cut-blocks : (c : DistanceConstants) (rows cols : ℕ) (s t : List ℕ) (from pitch to step : ℕ) → rows ≡ 8 → cols ≡ 8
    → weighted_by c (cell (block_of s from pitch)) (cell (block_of t to step)) ≡ cut_distance (Some c) rows cols (at s from pitch) (at t to step)
cut-blocks c rows cols s t from pitch to step er ec =
    weighted-same c _ _ _ _ (block-cell s from pitch) (block-cell t to step) ∙ sym (cut-whole c rows cols _ _ er ec)

pub cut-within : (w : Option DistanceConstants) (depth rows cols : ℕ) (s t : List ℕ) (from pitch to step : ℕ) → rows ≤ 8 → cols ≤ 8 → Weights w depth → Within s from pitch rows cols (2 ^ depth) → Within t to step rows cols (2 ^ depth)
    → cut_distance w rows cols (at s from pitch) (at t to step) < 2 ^ 53
cut-within w depth rows cols s t from pitch to step hr hc k u v = cut_low w depth rows cols _ _ hr hc k (λ i j hi hj. (u.low i j hi hj, v.low i j hi hj))
