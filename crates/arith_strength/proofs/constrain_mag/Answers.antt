-- `arith_strength::constrain_mag` meets its contract.
use mathlib.Core.Path.{sym, ◌∙◌}
use Rattle.cdef_spec.specs.LeafLaws.{constrain_mag-on, constrain_mag-off}
use Rattle.arith_strength.proofs.constrain_mag.Goals as goal

pub returns-then-strength-eq0 : goal.returns-then-strength-eq0
returns-then-strength-eq0 c = rw c.if-strength-eq0.true (sym (constrain_mag-off _ _))

pub returns : goal.returns
returns c =
    c.min.ensures
    ∙ rw (c.saturating_sub.ensures, c.saturating_sub-shift.ensures, c.log2_floor.ensures) (sym (constrain_mag-on c.args.a c.args.strength c.args.damping c.if-strength-eq0.false))
