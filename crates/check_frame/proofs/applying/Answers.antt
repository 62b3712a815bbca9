-- `check_frame::applying` meets its contract.
use Rattle.std.proofs.Common.{rules, sym, ◌∙◌}
use Rattle.cdef_pairs.specs.Applying.{applying_by_no}
use Rattle.cdef_spec.specs.Answers.{code_of, error_code}
use Rattle.cdef_spec.specs.AnswerLaws.{zero-so}
use Rattle.check_picture.specs.RefusalLaws.{refused-by}
use Rattle.check_picture.specs.StepLaws.{shape-stops, lists-stop, own-lists-stop, own-values-stop, own-pass, first-long, lists-long}
use Rattle.check_frame.proofs.applying.Goals as goal

pub returns-in_err-shaped-clause-refusal : goal.returns-in_err-shaped-clause-refusal
unfolding applying_by_no
returns-in_err-shaped-clause-refusal g c = refused-by _ _ _ c.in_err-shaped.field-0.0 _ (search rules) c.in_err-shaped.ensures.refusal (shape-stops _ _ _ _ _ _)

pub returns-clause-input : goal.returns-clause-input
returns-clause-input g c = rw c.in_ok-shaped.ensures.picture at c.filtering.ensures.input

pub returns-in_err-lists-clause-refusal : goal.returns-in_err-lists-clause-refusal
unfolding applying_by_no
returns-in_err-lists-clause-refusal g c =
    let shape-yes = zero-so c.in_ok-shaped.shaped _ c.in_ok-shaped.ensures.refusal in
    let asked = rw c.in_ok-shaped.ensures.picture at c.in_err-lists.ensures in
    refused-by _ _ _ c.in_err-lists.field-0.0 _ (search rules) asked (lists-stop _ _ _ _ _ _ shape-yes)

pub returns-then-not-is_listed-clause-refusal : goal.returns-then-not-is_listed-clause-refusal
unfolding applying_by_no code_of error_code
returns-then-not-is_listed-clause-refusal g c =
    let shape-yes = zero-so c.in_ok-shaped.shaped _ c.in_ok-shaped.ensures.refusal in
    let lists-yes = zero-so c.in_ok-lists.field-0 _ (rw c.in_ok-shaped.ensures.picture at c.in_ok-lists.ensures) in
    let listed = rw (c.units.ensures.0, c.in_ok-shaped.ensures.picture) at c.is_listed.ensures in
    own-lists-stop _ _ _ _ _ _ shape-yes lists-yes (sym listed ∙ c.if-not-is_listed.true)

pub returns-then-not-are_taken-clause-refusal : goal.returns-then-not-are_taken-clause-refusal
unfolding applying_by_no code_of error_code
returns-then-not-are_taken-clause-refusal g c =
    let shape-yes = zero-so c.in_ok-shaped.shaped _ c.in_ok-shaped.ensures.refusal in
    let lists-yes = zero-so c.in_ok-lists.field-0 _ (rw c.in_ok-shaped.ensures.picture at c.in_ok-lists.ensures) in
    let listed = rw (c.units.ensures.0, c.in_ok-shaped.ensures.picture) at c.is_listed.ensures in
    own-values-stop _ _ _ _ _ _ shape-yes lists-yes (sym listed ∙ c.if-not-is_listed.false) (sym c.are_taken.ensures ∙ c.if-not-are_taken.true)

pub filtering-requires-clause-listed : goal.filtering-requires-clause-listed
filtering-requires-clause-listed g c = lists-long _ _ _ (zero-so c.in_ok-lists.field-0 _ c.in_ok-lists.ensures)

pub filtering-requires-clause-full : goal.filtering-requires-clause-full
filtering-requires-clause-full g c = first-long _ _ _ (zero-so c.in_ok-lists.field-0 _ c.in_ok-lists.ensures)

pub returns-clause-refusal : goal.returns-clause-refusal
unfolding applying_by_no
returns-clause-refusal g c =
    let shape-yes = zero-so c.in_ok-shaped.shaped _ c.in_ok-shaped.ensures.refusal in
    let lists-yes = zero-so c.in_ok-lists.field-0 _ (rw c.in_ok-shaped.ensures.picture at c.in_ok-lists.ensures) in
    let listed = rw (c.units.ensures.0, c.in_ok-shaped.ensures.picture) at c.is_listed.ensures in
    rw c.in_ok-shaped.ensures.picture at c.filtering.ensures.refusal
    ∙ sym (own-pass _ _ _ _ _ _ shape-yes lists-yes (sym listed ∙ c.if-not-is_listed.false) (sym c.are_taken.ensures ∙ c.if-not-are_taken.false))
