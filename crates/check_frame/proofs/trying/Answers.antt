-- `check_frame::trying` meets its contract.
use Rattle.std.proofs.Common.{◌≡◌, ◌*◌, ◌&&◌, length, eqb, rules, tests, refl, sym, ◌∙◌}
use Rattle.cdef_spec.specs.Lent.{picture_in}
use Rattle.cdef_spec.specs.Questions.{visible_taken}
use Rattle.cdef_spec.specs.FrameCalls.{trying_no}
use Rattle.cdef_spec.specs.Answers.{code_of, error_code}
use Rattle.cdef_spec.specs.AnswerLaws.{zero-so}
use Rattle.check_picture.specs.RefusalLaws.{refused-by}
use Rattle.check_picture.specs.StepLaws.{shape-stops, lists-stop, own-lists-stop, own-pass}
use Rattle.check_frame.proofs.trying.Goals as goal
use Rattle.check_frame.proofs.trying.Goals.{then-sizes, else-sizes}

pub returns-in_err-shaped-clause-refusal : goal.returns-in_err-shaped-clause-refusal
unfolding trying_no
returns-in_err-shaped-clause-refusal c = refused-by _ _ _ c.in_err-shaped.field-0.0 _ (search rules) c.in_err-shaped.ensures.refusal (shape-stops _ _ _ _ _ _)

pub returns-in_err-lists-clause-refusal : goal.returns-in_err-lists-clause-refusal
unfolding trying_no
returns-in_err-lists-clause-refusal c =
    let shape-yes = zero-so c.in_ok-shaped.shaped _ c.in_ok-shaped.ensures.refusal in
    let asked = rw c.in_ok-shaped.ensures.picture at c.in_err-lists.ensures in
    refused-by _ _ _ c.in_err-lists.field-0.0 _ (search rules) asked (lists-stop _ _ _ _ _ _ shape-yes)

pub comparing-requires-clause-lists : goal.comparing-requires-clause-lists
comparing-requires-clause-lists c = zero-so c.in_ok-lists.field-0 _ c.in_ok-lists.ensures

pub returns-then-not-visible_taken-clause-refusal : goal.returns-then-not-visible_taken-clause-refusal
unfolding trying_no code_of error_code
returns-then-not-visible_taken-clause-refusal c =
    let listed : c.if-sizes.value ≡ eqb (length c.args.totals.now) (12 * c.units.result) && visible_taken (picture_in c.args.picture.now) c.args.visible =
    elim c.if-sizes.branch [ then-sizes w ↦ search (rules, tests) | else-sizes w ↦ search (rules, tests) ] in
    let own = rw (c.units.ensures.0, c.in_ok-shaped.ensures.picture) at listed in
    let shape-yes = zero-so c.in_ok-shaped.shaped _ c.in_ok-shaped.ensures.refusal in
    let lists-yes = zero-so c.in_ok-lists.field-0 _ (rw c.in_ok-shaped.ensures.picture at c.in_ok-lists.ensures) in
    own-lists-stop _ _ _ _ _ _ shape-yes lists-yes (sym own ∙ c.if-not-visible_taken.true)

pub returns-clause-refusal : goal.returns-clause-refusal
unfolding trying_no
returns-clause-refusal c =
    let listed : c.if-sizes.value ≡ eqb (length c.args.totals.now) (12 * c.units.result) && visible_taken (picture_in c.args.picture.now) c.args.visible =
    elim c.if-sizes.branch [ then-sizes w ↦ search (rules, tests) | else-sizes w ↦ search (rules, tests) ] in
    let own = rw (c.units.ensures.0, c.in_ok-shaped.ensures.picture) at listed in
    let shape-yes = zero-so c.in_ok-shaped.shaped _ c.in_ok-shaped.ensures.refusal in
    let lists-yes = zero-so c.in_ok-lists.field-0 _ (rw c.in_ok-shaped.ensures.picture at c.in_ok-lists.ensures) in
    rw c.in_ok-shaped.ensures.picture at c.comparing.ensures.refusal ∙ sym (own-pass _ _ _ _ _ _ shape-yes lists-yes (sym own ∙ c.if-not-visible_taken.false) refl)
