-- `filter_rows::both::constrain` meets its contract.
use Rattle.std.proofs.Common.{sym, ◌∙◌, arith}
use Rattle.filter_rows.specs.PairsLaws.{con-mark, con-tap}
use Rattle.arith_sample.specs.SampleLaws.{size-con}
use Rattle.arith_sample.proofs.Joins.{back_is}
use Rattle.filter_rows.proofs.both.constrain.Goals as goal

pub returns-then-t-eq-MARK : goal.returns-then-t-eq-MARK
returns-then-t-eq-MARK c = sym (con-mark _ _ _ _ c.if-t-eq-MARK.true)

pub returns-else-t-eq-MARK : goal.returns-else-t-eq-MARK
returns-else-t-eq-MARK c = let s = c.before.before in
    let a = s.args in
    back_is {m = 240} (record { is = c.before.constrain_tap-d.ensures; small = omega (arith, size-con a.t a.c a.s a.sh, s.requires.2) }) (omega arith) ∙ sym (con-tap _ _ _ _ c.if-t-eq-MARK.false)
