-- `plane_fours::four` meets its contract.
use Rattle.std.proofs.Common.{◌∙◌}
use Rattle.arith_sample.specs.Upto.{upto-ext}
use Rattle.plane_taps.specs.Runs.{run_by}
use Rattle.plane_rows.specs.LaneLaws.{kernel-none, kernel-sec, kernel-pri, kernel-both}
use Rattle.plane_fours.proofs.four.Goals as goal

pub returns-in-0-eq0 : goal.returns-in-0-eq0
unfolding run_by
returns-in-0-eq0 c = c.gather.ensures ∙ upto-ext _ _ 16 (λ j l. kernel-none _ _ _ _ _ c.in-0-eq0.is-0 c.in-0-eq0.is-1)

pub returns-in-0-default : goal.returns-in-0-default
returns-in-0-default c = c.sec.ensures ∙ upto-ext _ _ 16 (λ j l. kernel-sec _ _ _ _ _ c.in-0-default.is-0 c.in-0-default.is-1.1)

pub returns-in_default-eq0 : goal.returns-in_default-eq0
returns-in_default-eq0 c = c.pri.ensures ∙ upto-ext _ _ 16 (λ j l. kernel-pri _ _ _ _ _ c.in_default-eq0.is-0.1 c.in_default-eq0.is-1)

pub returns-in_default : goal.returns-in_default
returns-in_default c = c.both.ensures ∙ upto-ext _ _ 16 (λ j l. kernel-both _ _ _ _ _ c.in_default.is-0.1 c.in_default.is-1.1)
