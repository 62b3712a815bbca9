-- `still_steps::damping::damping_of` meets its contract.
use Rattle.std.proofs.Common.{Some, sym, ap, ◌∙◌, arith}
use Rattle.cdef_spec.specs.declared.SignalledDamping.{SignalledDamping}
use Rattle.cdef_spec.specs.Answers.{Result}
use Rattle.still_steps.specs.Damping.{read_text}
use Rattle.still_steps.specs.DampingLaws.{value_low, mapped, quality_index, signalled, other_letter}
use Rattle.still_steps.proofs.damping.damping_of.Goals as goal

pub overflow_cast-n : goal.overflow_cast-n
overflow_cast-n c = omega (arith, value_low _ _ (sym c.in_ok-n.ensures.ok_part ∙ c.number_of.ensures))

pub returns-in-113 : goal.returns-in-113
returns-in-113 c = mapped _ _ c.map_err.ensures.cases ∙ ap (λ (o : Result SignalledDamping). Some o) c.damping.ensures ∙ quality_index _ _ _ (rw c.in_ok-letter.ensures.ok_part at c.split_first.ensures.cases).0 _ (sym c.in_ok-n.ensures.ok_part ∙ c.number_of.ensures) c.in-113.is

pub returns-in-100 : goal.returns-in-100
unfolding read_text
returns-in-100 c = rw c.small.ensures (signalled _ _ _ (rw c.in_ok-letter.ensures.ok_part at c.split_first.ensures.cases).0 _ (sym c.in_ok-n.ensures.ok_part ∙ c.number_of.ensures) c.in-100.is)

pub returns-in_default : goal.returns-in_default
unfolding read_text
returns-in_default c = other_letter _ _ _ (rw c.in_ok-letter.ensures.ok_part at c.split_first.ensures.cases).0 _ (sym c.in_ok-n.ensures.ok_part ∙ c.number_of.ensures) (λ e. omega (arith, e)) (λ e. omega (arith, e))
