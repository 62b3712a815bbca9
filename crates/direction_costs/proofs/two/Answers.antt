-- `direction_costs::two` meets its contract.
use mathlib.Core.Path.{◌≡◌, ap, ◌∙◌}
use Prim.Native.Nat.{◌+◌, ◌*◌}
use native.Mathlib.Omega.{arith}
use lib.ListN.{get_or}
use lib.IntN.{pos}
use mir.Syntax.{w16}
use mir.ValLaws.{to_z-of_z}
use Rattle.cdef_spec.specs.Standard.{square, div_by}
use Rattle.arith_tables.specs.DivisorLaws.{divisor-is-standard}
use Rattle.direction_costs.specs.Costs.{entry}
use Rattle.arith_numbers.proofs.Squares.{square-low}
use Rattle.direction_costs.proofs.two.Goals as goal
use Rattle.direction_costs.proofs.two.Goals.{After-divisor, After-square_of, After-square_of-2}

first : (c : After-square_of) → c.square_of.result ≡ square (entry c.args.l.now c.args.a)
unfolding entry
first c = c.square_of.ensures ∙ ap square (to_z-of_z w16 _ (record { sfits = c.square_of-arg-1.given }))

second : (c : After-square_of-2) → c.square_of-2.result ≡ square (entry c.args.l.now c.args.b)
unfolding entry
second c = c.square_of-2.ensures ∙ ap square (to_z-of_z w16 _ (record { sfits = c.square_of-arg-2-1.given }))

product : (c : After-divisor) → (c.square_of.result + c.square_of-2.result) * c.divisor.result ≡ (square (entry c.args.l.now c.args.a) + square (entry c.args.l.now c.args.b)) * div_by c.args.n
product c = rw (first c.before.before.before, second c.before, c.divisor.ensures, divisor-is-standard c.args.n c.requires.2 c.requires.3)

pub overflow_add-result : goal.overflow_add-result
overflow_add-result c = unfold entry in let a = c.args in
    record { fits = omega (arith, first c.before.before, second c, square-low (get_or a.l.now a.a (pos 0)) (record { sfits = c.square_of-arg-1.given }), square-low (get_or a.l.now a.b (pos 0)) (record { sfits = c.square_of-arg-2-1.given })) }

pub overflow_mul-result : goal.overflow_mul-result
overflow_mul-result c = record { fits = omega (arith, product c, c.requires.4) }

pub returns : goal.returns
returns c = product c
