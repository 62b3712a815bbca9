-- `direction_eight::best::better` meets its contract.
use mathlib.Core.Path.{◌≡◌, ◌∙◌}
use mathlib.Core.Bool.{cond}
use mathlib.Core.List.{List}
use Prim.Native.Nat.{ℕ, ◌+◌, ◌*◌, ◌<◌, max}
use Rattle.std.proofs.Common.{rules}
use lib.Dec.{ltb}
use lib.ListN.{get_or}
use Rattle.arith_sample.specs.FromFn.{from-each}
use Rattle.arith_sample.specs.Upto.{upto, upto-ext}
use Rattle.direction_best.specs.Best.{best_to}
use Rattle.direction_eight.specs.declared.best.Best8.{Best8}
use Rattle.direction_eight.specs.Best.{lane_cost, bests_of}
use Rattle.direction_eight.specs.BestLaws.{dir-more, most-more, dir-at, most-at}
use Rattle.direction_eight.proofs.best.better.Goals as goal

-- a lane's step
module _ (c : List ℕ) (d l : ℕ) (b : Best8) (e : b ≡ bests_of c d) (hl : l < 8) where
  next-dir : cond (ltb (get_or b.most l 0) (get_or c (d * 8 + l) 0)) d (get_or b.directions l 0) ≡ (best_to (lane_cost c l) (d + 1)).y_dir
  unfolding lane_cost
  next-dir = rw (e, dir-at c d l hl, most-at c d l hl) (dir-more (lane_cost c l) d)

  next-most : max (get_or b.most l 0) (get_or c (d * 8 + l) 0) ≡ (best_to (lane_cost c l) (d + 1)).best_cost
  unfolding lane_cost
  next-most = rw (e, most-at c d l hl) (most-more (lane_cost c l) d)

both : (c : List ℕ) (n : ℕ) (x y : List ℕ) → x ≡ upto (λ (l : ℕ). (best_to (lane_cost c l) n).y_dir) 8
    → y ≡ upto (λ (l : ℕ). (best_to (lane_cost c l) n).best_cost) 8 → record { directions = x; most = y } ≡ bests_of c n
unfolding bests_of
both c n x y ex ey = rw (ex, ey)

pub returns : goal.returns
returns c =
    let a = c.args in
    both _ _ _ _
    (from-each (λ (l : ℕ). cond (ltb (get_or a.b.now.most l 0) (get_or a.c.now (a.d * 8 + l) 0)) a.d (get_or a.b.now.directions l 0)) _ (λ i y q e. search rules) _ 8 c.from_fn.ensures.items ∙ upto-ext _ _ 8 (λ l h. next-dir _ _ _ _ c.requires.1 h))
    (from-each (λ (l : ℕ). max (get_or a.b.now.most l 0) (get_or a.c.now (a.d * 8 + l) 0)) _ (λ i y q e. search rules) _ 8 c.from_fn-2.ensures.items ∙ upto-ext _ _ 8 (λ l h. next-most _ _ _ _ c.requires.1 h))
