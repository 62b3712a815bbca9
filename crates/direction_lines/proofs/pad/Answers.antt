-- `direction_lines::pad` meets its contract.
use mathlib.Core.Path.{sym, ◌∙◌}
use Prim.Native.Nat.{◌+◌, ◌-◌, ◌*◌}
use native.Mathlib.Omega.{arith}
use lib.ListN.{get_or}
use lib.IntN.{pos}
use Rattle.arith_sample.proofs.Sums16.{back}
use Rattle.direction_lines.specs.LinesLaws.{pad-left, pad-right, pad-in}
use Rattle.direction_lines.proofs.pad.Goals as goal

pub returns-then-j-lt8 : goal.returns-then-j-lt8
returns-then-j-lt8 c = sym (pad-left _ _ _ c.if-j-lt8.true)

pub returns-then-j-ge16 : goal.returns-then-j-ge16
returns-then-j-ge16 c = sym (pad-right _ _ _ (omega arith) c.if-j-ge16.true)

pub returns : goal.returns
returns c = let a = c.args in
    back (get_or a.b.now (a.i * 8 + (a.j - 8)) (pos 0)) (omega (arith, c.requires.2.all (a.i * 8 + (a.j - 8)))) ∙ sym (pad-in _ _ _ (omega arith) (omega arith))
