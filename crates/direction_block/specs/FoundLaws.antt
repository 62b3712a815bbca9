-- From the line sums of a block to its direction and variance: the costs equal the standard's and fit, and so does the best.
use Rattle.std.specs.Prelude.{◌≡◌, eqb, get_or, ℤ, pos, nat_abs}
use Rattle.std.proofs.Common.{sym, ◌∙◌}
use Rattle.std.proofs.Math.Path.{ap}
use Rattle.std.proofs.Math.Bool.{cond}
use Prim.Native.Nat.{ℕ, zero, suc, ◌+◌, ◌%◌, ◌≤◌, ◌<◌, min}
use native.Mathlib.Omega.{arith}
use Rattle.cdef_spec.specs.DirectionLaws.{cost-high, direction-low, variance-high}
use Rattle.cdef_spec.specs.DirectionLocal.{sum_ℤ-same, direction-same, variance-same}
use Rattle.cdef_spec.specs.Standard.{line_of, partial, cost_straight, cost_diagonal, cost_between, cost, best, direction, variance}
use Rattle.arith_sample.specs.Upto.{upto, get_or-upto, upto-ext}
use Rattle.direction_lines.specs.Lines.{partials_of}
use Rattle.direction_costs.specs.Costs.{entry}
use Rattle.direction_block.specs.Found.{cost_list, CostsFit, found_of}
use Rattle.direction_best.specs.Best.{best_of}
use Rattle.direction_costs.specs.CostsLaws.{straight-is, diagonal-is, between_is}
use Rattle.direction_best.specs.BestLaws.{best-same}

-- ---- a cost reads its first lines only

module _ (p r : ℕ → ℤ) (h : (n : ℕ) → n < 16 → p n ≡ r n) where
  straight-same : cost_straight p ≡ cost_straight r
  straight-same = straight-is p ∙ rw (h 0 (omega arith), h 1 (omega arith), h 2 (omega arith), h 3 (omega arith), h 4 (omega arith), h 5 (omega arith), h 6 (omega arith), h 7 (omega arith)) (sym (straight-is r))

  diagonal-same : cost_diagonal p ≡ cost_diagonal r
  diagonal-same = diagonal-is p ∙ rw (
    h 0 (omega arith),
    h 1 (omega arith),
    h 2 (omega arith),
    h 3 (omega arith),
    h 4 (omega arith),
    h 5 (omega arith),
    h 6 (omega arith),
    h 7 (omega arith),
    h 8 (omega arith),
    h 9 (omega arith),
    h 10 (omega arith),
    h 11 (omega arith),
    h 12 (omega arith),
    h 13 (omega arith),
    h 14 (omega arith),
  ) (sym (diagonal-is r))

  between-same : cost_between p ≡ cost_between r
  between-same = between_is p ∙ rw (
    h 0 (omega arith),
    h 1 (omega arith),
    h 2 (omega arith),
    h 3 (omega arith),
    h 4 (omega arith),
    h 5 (omega arith),
    h 6 (omega arith),
    h 7 (omega arith),
    h 8 (omega arith),
    h 9 (omega arith),
    h 10 (omega arith),
  ) (sym (between_is r))

-- ---- the costs of a block's line sums

module _ (x : ℕ → ℕ → ℤ) where
  line_at : (d n : ℕ) → n < 16 → entry (upto (partial x d) 16) n ≡ partial x d n
  unfolding entry
  line_at d n h = get_or-upto (partial x d) 16 n (pos 0) h

  pub costs-are : (d : ℕ) → d < 8 → get_or (cost_list (partials_of x)) d 0 ≡ cost x d
  unfolding cost_list partials_of cost
  costs-are zero h = diagonal-same (entry (upto (partial x 0) 16)) (partial x 0) (line_at 0)
  costs-are (suc zero) h = between-same (entry (upto (partial x 1) 16)) (partial x 1) (line_at 1)
  costs-are (suc (suc zero)) h = straight-same (entry (upto (partial x 2) 16)) (partial x 2) (line_at 2)
  costs-are (suc (suc (suc zero))) h = between-same (entry (upto (partial x 3) 16)) (partial x 3) (line_at 3)
  costs-are (suc (suc (suc (suc zero)))) h = diagonal-same (entry (upto (partial x 4) 16)) (partial x 4) (line_at 4)
  costs-are (suc (suc (suc (suc (suc zero))))) h = between-same (entry (upto (partial x 5) 16)) (partial x 5) (line_at 5)
  costs-are (suc (suc (suc (suc (suc (suc zero)))))) h = straight-same (entry (upto (partial x 6) 16)) (partial x 6) (line_at 6)
  costs-are (suc (suc (suc (suc (suc (suc (suc zero))))))) h = between-same (entry (upto (partial x 7) 16)) (partial x 7) (line_at 7)
  costs-are (suc (suc (suc (suc (suc (suc (suc (suc d)))))))) h = absurd (omega arith)

-- ---- the costs fit: a line sum adds samples of the block only, each of magnitude at most 128

module _ (x : ℕ → ℕ → ℤ) (small : (i j : ℕ) → i < 8 → j < 8 → nat_abs (x i j) ≤ 128) where
  -- the block again, bounded everywhere
  near : ℕ → ℕ → ℤ
  near i j = x (min i 7) (min j 7)

  near_same : (i j : ℕ) → i < 8 → j < 8 → x i j ≡ near i j
  unfolding near
  near_same i j hi hj =
      let a : min i 7 ≡ i = omega arith in
      let b : min j 7 ≡ j = omega arith in
      rw (a, b)

  partial-near : (d n : ℕ) → partial x d n ≡ partial near d n
  unfolding partial
  partial-near d n = sum_ℤ-same 8 _ _ (λ i hi. sum_ℤ-same 8 _ _ (λ j hj. ap (λ (z : ℤ). cond (eqb (line_of d i j) n) z (pos 0)) (near_same i j hi hj)))

  partials-near : partials_of x ≡ partials_of near
  unfolding partials_of
  partials-near =
      let e : (d : ℕ) → upto (partial x d) 16 ≡ upto (partial near d) 16 = λ d. upto-ext _ _ 16 (λ n h. partial-near d n) in
      rw (e 0, e 1, e 2, e 3, e 4, e 5, e 6, e 7)

  near-small : (i j : ℕ) → nat_abs (near i j) ≤ 128
  unfolding near
  near-small i j = small (min i 7) (min j 7) (omega arith) (omega arith)

  pub costs-fit : CostsFit (partials_of x)
  costs-fit = record { all = λ d h. rw (partials-near, costs-are near d h) (cost-high near near-small d h) }

  pub direction-below : direction x < 8
  direction-below = rw (direction-same x near near_same) (direction-low near near-small)

  pub variance-below : variance x ≤ 860160
  variance-below = rw (variance-same x near near_same) (variance-high near near-small)

-- THE DIRECTION AND THE VARIANCE from a block's line sums are the standard's
pub found-are : (x : ℕ → ℕ → ℤ) → found_of (partials_of x) ≡ record { direction = direction x; variance = variance x }
unfolding found_of best_of direction variance
found-are x =
    let e : best (λ d. get_or (cost_list (partials_of x)) d 0) ≡ best (cost x) = best-same _ _ (costs-are x) in
    rw (e, costs-are x (((best (cost x)).y_dir + 4) % 8) (omega arith))
