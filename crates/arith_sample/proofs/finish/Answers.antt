-- `arith_sample::finish` meets its contract.
use mathlib.Core.Path.{sym, ◌∙◌}
use native.Mathlib.Omega.{arith}
use Rattle.arith_sample.specs.SampleLaws.{finish-mark, finish-on}
use Rattle.arith_sample.proofs.Sums16.{back}
use Rattle.arith_sample.proofs.finish.Goals as goal

pub returns-then-c-eq-MARK : goal.returns-then-c-eq-MARK
returns-then-c-eq-MARK c = let a = c.before.before.args in sym (finish-mark a.c a.sum a.lo a.hi c.if-c-eq-MARK.true)

pub returns-else-c-eq-MARK : goal.returns-else-c-eq-MARK
returns-else-c-eq-MARK c = let s = c.before.before in
    let a = s.args in
    c.before.clipped-v.ensures ∙ rw (back a.sum (omega (arith, s.requires.1))) (sym (finish-on a.c a.sum a.lo a.hi c.if-c-eq-MARK.false))
