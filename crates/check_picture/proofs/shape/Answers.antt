-- `check_picture::shape` meets its contract.
use Rattle.std.proofs.Common.{sym, ◌∙◌, rules}
use Rattle.cdef_spec.specs.Lent.{picture_in}
use Rattle.cdef_spec.specs.Questions.{first_no}
use Rattle.cdef_spec.specs.Answers.{code_of, error_code}
use Rattle.check_picture.specs.PartLaws.{sides-stop, sides-passed}
use Rattle.cdef_spec.specs.AnswerLaws.{zero-so}
use Rattle.check_picture.specs.RefusalLaws.{refused-by, accepted}
use Rattle.check_picture.specs.ShapeLaws.{shaped-is}
use Rattle.check_picture.proofs.shape.Goals as goal

pub returns-in_err-sides-clause-refusal : goal.returns-in_err-sides-clause-refusal
unfolding picture_in
returns-in_err-sides-clause-refusal c = refused-by _ _ _ c.in_err-sides.field-0.0 _ (search rules) c.in_err-sides.ensures (sides-stop _ _ _ _)

pub returns-then-not-flags_taken-clause-refusal : goal.returns-then-not-flags_taken-clause-refusal
unfolding picture_in code_of error_code
returns-then-not-flags_taken-clause-refusal c =
    sym (sides-passed _ _ _ _ (zero-so c.in_ok-sides.field-0 _ c.in_ok-sides.ensures) ∙ (unfold first_no in rw (← c.flags_taken.ensures, c.if-not-flags_taken.true)))

pub invariant_of-result : goal.invariant_of-result
invariant_of-result c = record { shaped = shaped-is _ (unfold picture_in in (sides-passed _ _ _ _ (zero-so c.in_ok-sides.field-0 _ c.in_ok-sides.ensures) ∙ (unfold first_no in rw (← c.flags_taken.ensures, c.if-not-flags_taken.false)))) }

pub returns-clause-refusal : goal.returns-clause-refusal
unfolding picture_in
returns-clause-refusal c = accepted _ _ (sides-passed _ _ _ _ (zero-so c.in_ok-sides.field-0 _ c.in_ok-sides.ensures) ∙ (unfold first_no in rw (← c.flags_taken.ensures, c.if-not-flags_taken.false)))
