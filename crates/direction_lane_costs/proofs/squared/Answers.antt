-- `direction_lane_costs::squared` meets its contract.
use mathlib.Core.Path.{◌≡◌, ap, ◌∙◌}
use Prim.Native.Nat.{◌+◌, ◌*◌, ◌≤◌}
use native.Mathlib.Omega.{arith}
use mir.Syntax.{w16}
use mir.ValLaws.{to_z-of_z}
use Rattle.cdef_spec.specs.Standard.{square}
use Rattle.arith_numbers.proofs.Squares.{square-low}
use Rattle.direction_costs.specs.Costs.{entry}
use Rattle.direction_lane_costs.proofs.squared.Goals as goal
use Rattle.direction_lane_costs.proofs.squared.Goals.{After-square_of, After-square_of-2}

-- each square, and its bound
first : (c : After-square_of) → let v = entry c.args.z.now (2 * c.args.k) in (c.square_of.result ≡ square v) × (square v ≤ 32768 * 32768)
unfolding entry
first c = (c.square_of.ensures ∙ ap square (to_z-of_z w16 _ (record { sfits = c.square_of-arg-1.given })), square-low _ (record { sfits = c.square_of-arg-1.given }))

second : (c : After-square_of-2) → let v = entry c.args.z.now (2 * c.args.k + 1) in (c.square_of-2.result ≡ square v) × (square v ≤ 32768 * 32768)
unfolding entry
second c = (c.square_of-2.ensures ∙ ap square (to_z-of_z w16 _ (record { sfits = c.square_of-arg-2-1.given })), square-low _ (record { sfits = c.square_of-arg-2-1.given }))

pub overflow_add-result : goal.overflow_add-result
overflow_add-result c = record { fits = omega (arith, first c.before.before, second c) }

pub returns : goal.returns
returns c = rw ((first c.before.before).0, (second c).0)
