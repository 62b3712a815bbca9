-- `check_picture::values` meets its contract.
use Rattle.std.proofs.Common.{rules, ◌∙◌}
use Rattle.cdef_spec.specs.AnswerLaws.{zero-so}
use Rattle.check_picture.specs.RefusalLaws.{refused-by, accepted}
use Rattle.check_picture.specs.ShapeLaws.{listed-is}
use Rattle.check_picture.specs.StepLaws.{picture-values, values-alone}
use Rattle.check_picture.proofs.values.Goals as goal

pub returns-in_err-values_no-clause-refusal : goal.returns-in_err-values_no-clause-refusal
returns-in_err-values_no-clause-refusal c = refused-by _ _ _ c.in_err-values_no.field-0.0 _ (search rules) (c.in_err-values_no.ensures ∙ values-alone _ _) (λ k e h. e)

pub invariant_of-result : goal.invariant_of-result
invariant_of-result c = record { listed = listed-is _ c.args.d c.requires (picture-values _ _ (zero-so c.in_ok-values_no.field-0 _ (c.in_ok-values_no.ensures ∙ values-alone _ _))) }

pub returns-clause-refusal : goal.returns-clause-refusal
returns-clause-refusal c = accepted _ _ (zero-so c.in_ok-values_no.field-0 _ (c.in_ok-values_no.ensures ∙ values-alone _ _))
