-- `direction_lane_costs::squares` meets its contract.
use mathlib.Core.Path.{◌≡◌, ◌∙◌}
use mathlib.Core.List.{List}
use Prim.Native.Nat.{ℕ, ◌+◌, ◌*◌, ◌/◌, ◌%◌, ◌<◌}
use Rattle.std.proofs.Common.{rules}
use lib.IntN.{ℤ, pos}
use lib.ListN.{get_or}
use Rattle.cdef_spec.specs.Standard.{square}
use Rattle.arith_sample.specs.FromFn.{from-each}
use Rattle.arith_sample.specs.Upto.{upto-ext}
use Rattle.direction_costs.specs.Costs.{entry}
use Rattle.direction_lane_costs.specs.Costs.{ends_of, end_squares, squares_of}
use Rattle.direction_lane_costs.specs.CostsLaws.{end-squares}
use Rattle.direction_lane_costs.proofs.squares.Goals as goal

-- their sum
both : (p z : List ℤ) (k : ℕ) → k < 64 → z ≡ ends_of p → square (get_or z (2 * k) (pos 0)) + square (get_or z (2 * k + 1) (pos 0)) ≡ end_squares p (k % 8) (k / 8)
both p z k h e = rw e (end-squares p k h)

pub returns : goal.returns
unfolding squares_of entry
returns c =
    let z = c.ends-z.result in
    from-each (λ (k : ℕ). square (get_or z (2 * k) (pos 0)) + square (get_or z (2 * k + 1) (pos 0))) _ (λ i y q e. search rules) _ 64 c.from_fn.ensures.items
    ∙ upto-ext _ _ 64 (λ k h. both _ _ _ h c.ends-z.ensures)
