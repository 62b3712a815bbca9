-- `trial_strengths::adjusted` meets its contract.
use mathlib.Core.Path.{ap, sym, ◌∙◌}
use Rattle.cdef_spec.specs.declared.TrialWay.{TrialWay}
use Rattle.trial_strengths.specs.Strengths.{adjusted_by}
use Rattle.trial_strengths.proofs.adjusted.Goals as goal

pub returns-in-Luma : goal.returns-in-Luma
unfolding adjusted_by
returns-in-Luma c = c.adjust_pri.ensures ∙ sym (ap (λ (w : TrialWay). adjusted_by w c.args.s) c.in-Luma.is)

pub returns-in-Chroma : goal.returns-in-Chroma
unfolding adjusted_by
returns-in-Chroma c = sym (ap (λ (w : TrialWay). adjusted_by w c.args.s) c.in-Chroma.is)
