-- `arith_root::whole_root` meets its contract.
use mathlib.Core.Path.{sym, ◌∙◌}
use native.Mathlib.Omega.{arith}
use Rattle.arith_root.specs.NewtonLaws.{root-so, quotient-low, next-range, next-less}
use Rattle.arith_root.proofs.whole_root.Goals as goal

pub loop-g-init : goal.loop-g-init
loop-g-init c = (c.first_guess-g.ensures.0, omega (arith, c.first_guess-g.ensures.1))

pub overflow_add-g : goal.overflow_add-g
overflow_add-g c = let p = c.before.before in omega (arith, quotient-low p.before.before.args.h p.loop-g.g (omega arith) (omega arith) (omega arith) (omega arith))

pub loop-g-smaller : goal.loop-g-smaller
loop-g-smaller c = next-less _ _ (omega arith) (omega arith) (omega arith) (omega arith) (sym c.before.settled.ensures ∙ c.if-settled.false)

pub loop-g-preserved : goal.loop-g-preserved
loop-g-preserved c = next-range _ _ (omega arith) (omega arith) (omega arith) (omega arith)

pub returns : goal.returns
returns c = root-so _ _ (sym c.before.settled.ensures ∙ c.if-settled.true)
