-- `check_frame::measuring` meets its contract.
use Rattle.std.proofs.Common.{◌≡◌, ◌≤◌, ◌*◌, ◌&&◌, length, eqb, rules, tests, sym, ap, ◌∙◌, arith}
use Rattle.std.proofs.Math.Nat.{mul-le-mul}
use Rattle.cdef_spec.specs.declared.Block.{Block}
use Rattle.cdef_spec.specs.Picture.{block_height}
use Rattle.cdef_spec.specs.Lent.{picture_in}
use Rattle.cdef_spec.specs.Questions.{visible_taken}
use Rattle.cdef_spec.specs.Answers.{code_of, error_code}
use Rattle.cdef_spec.specs.FrameCalls.{scratch_length, measuring_no}
use Rattle.frame_shape.specs.Frame.{block_of}
use Rattle.frame_shape.specs.Checked.{shaped_in}
use Rattle.frame_shape.specs.ShapeLaws.{plane-wide, block-high}
use Rattle.cdef_spec.specs.AnswerLaws.{zero-so}
use Rattle.check_picture.specs.RefusalLaws.{refused-by}
use Rattle.check_picture.specs.StepLaws.{shape-stops, lists-stop, own-lists-stop, own-values-stop, own-pass}
use Rattle.check_frame.proofs.measuring.Goals as goal
use Rattle.check_frame.proofs.measuring.Goals.{then-totals-units, else-totals-units, then-sizes, else-sizes}

pub returns-in_err-shaped-clause-refusal : goal.returns-in_err-shaped-clause-refusal
unfolding measuring_no
returns-in_err-shaped-clause-refusal c = refused-by _ _ _ c.in_err-shaped.field-0.0 _ (search rules) c.in_err-shaped.ensures.refusal (shape-stops _ _ _ _ _ _)

pub returns-in_err-lists-clause-refusal : goal.returns-in_err-lists-clause-refusal
unfolding measuring_no
returns-in_err-lists-clause-refusal c =
    let shape-yes = zero-so c.in_ok-shaped.shaped _ c.in_ok-shaped.ensures.refusal in
    let asked = rw c.in_ok-shaped.ensures.picture at c.in_err-lists.ensures in
    refused-by _ _ _ c.in_err-lists.field-0.0 _ (search rules) asked (lists-stop _ _ _ _ _ _ shape-yes)

pub comparing-requires-clause-lists : goal.comparing-requires-clause-lists
comparing-requires-clause-lists c = zero-so c.in_ok-lists.field-0 _ c.in_ok-lists.ensures

pub overflow_mul-room : goal.overflow_mul-room
overflow_mul-room c =
    let high : c.block_of-height.result.height ≡ block_height (shaped_in c.in_ok-shaped.shaped) = unfold block_of in ap (λ (b : Block). b.height) c.block_of-height.ensures in
    let low : c.block_of-height.result.height ≤ 8 = omega (arith, high, (block-high _ c.in_ok-shaped.shaped.shaped).1) in
    let wide : c.plane_width.result ≤ 4096 = omega (arith, c.plane_width.ensures, plane-wide _ c.in_ok-shaped.shaped.shaped) in
    omega (arith, mul-le-mul wide low)

pub returns-then-not-visible_taken-clause-refusal : goal.returns-then-not-visible_taken-clause-refusal
unfolding measuring_no scratch_length code_of error_code
returns-then-not-visible_taken-clause-refusal c =
    let s = shaped_in c.in_ok-shaped.shaped in
    let high : c.block_of-height.result.height ≡ block_height s = unfold block_of in ap (λ (b : Block). b.height) c.block_of-height.ensures in
    let sizes : c.if-totals-units.sizes ≡ eqb (length c.args.totals.now) c.units.result && eqb (length c.args.scratch.now) (c.plane_width.result * c.block_of-height.result.height) =
    elim c.if-totals-units.branch [ then-totals-units w ↦ search (rules, tests) | else-totals-units w ↦ search (rules, tests) ] in
    let listed : c.if-sizes.value ≡ c.if-totals-units.sizes && visible_taken (picture_in c.args.picture.now) c.args.visible =
    elim c.if-sizes.branch [ then-sizes w ↦ search (rules, tests) | else-sizes w ↦ search (rules, tests) ] in
    let own = rw (sizes, c.units.ensures.0, c.plane_width.ensures, high, c.in_ok-shaped.ensures.picture) at listed in
    let shape-yes = zero-so c.in_ok-shaped.shaped _ c.in_ok-shaped.ensures.refusal in
    let lists-yes = zero-so c.in_ok-lists.field-0 _ (rw c.in_ok-shaped.ensures.picture at c.in_ok-lists.ensures) in
    own-lists-stop _ _ _ _ _ _ shape-yes lists-yes (sym own ∙ c.if-not-visible_taken.true)

pub returns-then-not-pair_taken-clause-refusal : goal.returns-then-not-pair_taken-clause-refusal
unfolding measuring_no scratch_length code_of error_code
returns-then-not-pair_taken-clause-refusal c =
    let s = shaped_in c.in_ok-shaped.shaped in
    let high : c.block_of-height.result.height ≡ block_height s = unfold block_of in ap (λ (b : Block). b.height) c.block_of-height.ensures in
    let sizes : c.if-totals-units.sizes ≡ eqb (length c.args.totals.now) c.units.result && eqb (length c.args.scratch.now) (c.plane_width.result * c.block_of-height.result.height) =
    elim c.if-totals-units.branch [ then-totals-units w ↦ search (rules, tests) | else-totals-units w ↦ search (rules, tests) ] in
    let listed : c.if-sizes.value ≡ c.if-totals-units.sizes && visible_taken (picture_in c.args.picture.now) c.args.visible =
    elim c.if-sizes.branch [ then-sizes w ↦ search (rules, tests) | else-sizes w ↦ search (rules, tests) ] in
    let own = rw (sizes, c.units.ensures.0, c.plane_width.ensures, high, c.in_ok-shaped.ensures.picture) at listed in
    let shape-yes = zero-so c.in_ok-shaped.shaped _ c.in_ok-shaped.ensures.refusal in
    let lists-yes = zero-so c.in_ok-lists.field-0 _ (rw c.in_ok-shaped.ensures.picture at c.in_ok-lists.ensures) in
    own-values-stop _ _ _ _ _ _ shape-yes lists-yes (sym own ∙ c.if-not-visible_taken.false) (sym c.pair_taken.ensures ∙ c.if-not-pair_taken.true)

pub returns-clause-refusal : goal.returns-clause-refusal
unfolding measuring_no scratch_length
returns-clause-refusal c =
    let s = shaped_in c.in_ok-shaped.shaped in
    let high : c.block_of-height.result.height ≡ block_height s = unfold block_of in ap (λ (b : Block). b.height) c.block_of-height.ensures in
    let sizes : c.if-totals-units.sizes ≡ eqb (length c.args.totals.now) c.units.result && eqb (length c.args.scratch.now) (c.plane_width.result * c.block_of-height.result.height) =
    elim c.if-totals-units.branch [ then-totals-units w ↦ search (rules, tests) | else-totals-units w ↦ search (rules, tests) ] in
    let listed : c.if-sizes.value ≡ c.if-totals-units.sizes && visible_taken (picture_in c.args.picture.now) c.args.visible =
    elim c.if-sizes.branch [ then-sizes w ↦ search (rules, tests) | else-sizes w ↦ search (rules, tests) ] in
    let own = rw (sizes, c.units.ensures.0, c.plane_width.ensures, high, c.in_ok-shaped.ensures.picture) at listed in
    let shape-yes = zero-so c.in_ok-shaped.shaped _ c.in_ok-shaped.ensures.refusal in
    let lists-yes = zero-so c.in_ok-lists.field-0 _ (rw c.in_ok-shaped.ensures.picture at c.in_ok-lists.ensures) in
    rw c.in_ok-shaped.ensures.picture at c.comparing.ensures.refusal
    ∙ sym (own-pass _ _ _ _ _ _ shape-yes lists-yes (sym own ∙ c.if-not-visible_taken.false) (sym c.pair_taken.ensures ∙ c.if-not-pair_taken.false))
