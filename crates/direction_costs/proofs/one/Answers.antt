-- `direction_costs::one` meets its contract.
use mathlib.Core.Path.{◌≡◌, ap, ◌∙◌}
use Prim.Native.Nat.{◌*◌}
use native.Mathlib.Omega.{arith}
use mir.Syntax.{w16}
use mir.ValLaws.{to_z-of_z}
use Rattle.cdef_spec.specs.Standard.{square, div_by}
use Rattle.arith_tables.specs.DivisorLaws.{divisor-is-standard}
use Rattle.direction_costs.specs.Costs.{entry}
use Rattle.direction_costs.proofs.one.Goals as goal
use Rattle.direction_costs.proofs.one.Goals.{After-divisor, After-square_of}

first : (c : After-square_of) → c.square_of.result ≡ square (entry c.args.l.now c.args.a)
unfolding entry
first c = c.square_of.ensures ∙ ap square (to_z-of_z w16 _ (record { sfits = c.square_of-arg-1.given }))

product : (c : After-divisor) → c.square_of.result * c.divisor.result ≡ square (entry c.args.l.now c.args.a) * div_by c.args.n
product c = rw (first c.before, c.divisor.ensures, divisor-is-standard c.args.n c.requires.1 c.requires.2)

pub overflow_mul-result : goal.overflow_mul-result
overflow_mul-result c = record { fits = omega (arith, product c, c.requires.3) }

pub returns : goal.returns
returns c = product c
