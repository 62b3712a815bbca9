-- `direction_lane_costs::cost` meets its contract.
use mathlib.Core.Path.{◌≡◌, ◌∙◌}
use mathlib.Core.List.{List}
use Prim.Native.Nat.{ℕ, ◌<◌}
use Rattle.std.proofs.Common.{rules}
use lib.IntN.{ℤ}
use Rattle.std.proofs.iter.Serving.{serving}
use Rattle.arith_sample.specs.FromFn.{from-each}
use Rattle.arith_sample.specs.Upto.{upto-ext}
use Rattle.direction_lane_costs.specs.declared.Lines.{Lines}
use Rattle.direction_lane_costs.specs.Costs.{squares_of, weighed_of, cost_of}
use Rattle.direction_lane_costs.specs.CostsLaws.{lane-cost, squares_fit}
use Rattle.direction_lane_costs.proofs.cost.Goals as goal

-- a lane of the squares
lane : (p : List ℤ) (q : List ℕ) (kind : Lines) (l : ℕ) → l < 8 → q ≡ squares_of p → weighed_of kind q l ≡ cost_of p kind l
lane p q kind l h e = rw e (lane-cost p kind l h)

pub from_fn-requires : goal.from_fn-requires
from_fn-requires c = grind (serving, squares_fit _ _ _ c.squares-q.ensures c.requires.1)

pub returns : goal.returns
returns c = from-each (weighed_of c.args.kind c.squares-q.result) _ (λ i y q e. search rules) _ 8 c.from_fn.ensures.items ∙ upto-ext _ _ 8 (λ l h. lane _ _ _ _ h c.squares-q.ensures)
