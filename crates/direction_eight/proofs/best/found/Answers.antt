-- `direction_eight::best::found` meets its contract.
use mathlib.Core.Path.{◌≡◌, ◌∙◌}
use mathlib.Core.List.{List}
use Prim.Native.Nat.{ℕ, ◌+◌, ◌-◌, ◌*◌, ◌%◌, ◌≤◌, ◌<◌}
use Rattle.std.proofs.Common.{rules}
use Rattle.std.proofs.iter.Serving.{serving}
use lib.ListN.{get_or, length}
use Rattle.cdef_spec.specs.Words.{◌>>◌}
use Rattle.arith_sample.specs.FromFn.{from-each}
use Rattle.arith_sample.specs.Upto.{upto, upto-ext, length-upto}
use Rattle.direction_best.specs.Best.{best_to}
use Rattle.direction_eight.specs.declared.best.Best8.{Best8}
use Rattle.direction_eight.specs.Best.{lane_cost, lane_direction, lane_variance, bests_of, found_by_costs}
use Rattle.direction_eight.specs.BestLaws.{dir-at, most-at, dir-8, across-low, dir-found, variance-found}
use Rattle.direction_eight.proofs.best.found.Goals as goal

-- a lane's best direction and its cost
module _ (c : List ℕ) (b : Best8) (e : b ≡ bests_of c 8) where
  long : (length b.directions ≡ 8) × (length b.most ≡ 8)
  unfolding bests_of
  long = rw e (length-upto _ 8, length-upto _ 8)

  dir : (l : ℕ) → l < 8 → get_or b.directions l 0 ≡ (best_to (lane_cost c l) 8).y_dir
  dir l h = rw e (dir-at c 8 l h)

  most : (l : ℕ) → l < 8 → get_or b.most l 0 ≡ (best_to (lane_cost c l) 8).best_cost
  most l h = rw e (most-at c 8 l h)

  low : (l : ℕ) → l < 8 → get_or b.directions l 0 < 8
  low l h = rw (dir l h) (dir-8 _ _)

  across : (l : ℕ) → l < 8 → get_or c ((get_or b.directions l 0 + 4) % 8 * 8 + l) 0 ≤ get_or b.most l 0
  across l h = rw (most l h) (across-low _ _ _)

both : (c x y : List ℕ) → x ≡ upto (lane_direction c) 8 → y ≡ upto (lane_variance c) 8 → record { directions = x; variances = y } ≡ found_by_costs c
unfolding found_by_costs
both c x y ex ey = rw (ex, ey)

pub from_fn-requires : goal.from_fn-requires
from_fn-requires c = grind (serving, long _ _ c.best-b.ensures, low _ _ c.best-b.ensures)

pub from_fn-requires-2 : goal.from_fn-requires-2
from_fn-requires-2 c = grind (serving, long _ _ c.best-b.ensures, low _ _ c.best-b.ensures, across _ _ c.best-b.ensures)

pub returns : goal.returns
returns c =
    let b = c.best-b.result in
    both _ _ _
    (from-each (λ (l : ℕ). get_or b.directions l 0) _ (λ i y q e. search rules) _ 8 c.from_fn.ensures.items ∙ upto-ext _ _ 8 (λ l h. dir _ _ c.best-b.ensures l h ∙ dir-found _ _))
    (from-each (λ (l : ℕ). (get_or b.most l 0 - get_or c.args.c.now ((get_or b.directions l 0 + 4) % 8 * 8 + l) 0) >> 10) _ (λ i y q e. search rules) _ 8 c.from_fn-2.ensures.items ∙ upto-ext _ _ 8 (λ l h. variance-found _ _ _ _ (most _ _ c.best-b.ensures l h) (dir _ _ c.best-b.ensures l h)))
