-- `trial_any::trials` meets its contract.
use Rattle.std.proofs.Common.{sym, ◌∙◌, ◌*◌, arith}
use Rattle.cdef_spec.proofs.PlaneLaws.{block_none}
use Rattle.trial_any.specs.Any.{none}
use Rattle.trial_any.specs.RowLaws.{taps-in, primary-ready, secondary-ready, pair-more}
use Rattle.trial_any.proofs.trials.Goals as goal

pub loop-j-init : goal.loop-j-init
loop-j-init c = (sym (block_none _ _ _ _ _ _), c.requires.0, omega arith)

pub trial-requires : goal.trial-requires
unfolding none
trial-requires c = let q = c.requires in (c.loop-i.invariant.1, omega arith, q.1, q.2, q.3, rw c.taps_of.ensures (taps-in _ q.4 _), primary-ready _ q.4 c.loop-i.i (omega arith), secondary-ready _ q.4 c.loop-j.j (omega arith))

pub loop-i-preserved : goal.loop-i-preserved
unfolding none
loop-i-preserved c = let a = c.args in let i = c.loop-i.invariant in
    (pair-more a.win.now a.u a.w (a.h * a.w) a.out.now _ _ c.loop-j.j c.loop-i.i _ (omega arith) (omega arith) c.taps_of.ensures i.0 c.trial.ensures, c.trial.auto.out ∙ i.1, omega arith, omega arith)
