-- `arith_sample::free` meets its contract.
use mathlib.Core.Path.{sym, ◌∙◌}
use native.Mathlib.Omega.{arith}
use Rattle.arith_sample.specs.SampleLaws.{free-mark, free_on}
use Rattle.arith_sample.proofs.Sums16.{back}
use Rattle.arith_sample.proofs.free.Goals as goal

pub returns-then-c-eq-MARK : goal.returns-then-c-eq-MARK
returns-then-c-eq-MARK c = let a = c.before.before.args in sym (free-mark a.c a.sum c.if-c-eq-MARK.true)

pub returns-else-c-eq-MARK : goal.returns-else-c-eq-MARK
returns-else-c-eq-MARK c = let s = c.before.before in
    let a = s.args in
    c.before.raised-v.ensures ∙ rw (back a.sum (omega (arith, s.requires.1))) (sym (free_on a.c a.sum c.if-c-eq-MARK.false))
