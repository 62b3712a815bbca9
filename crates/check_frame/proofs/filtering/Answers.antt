-- `check_frame::filtering` meets its contract.
use Rattle.std.proofs.Common.{rules, sym, ap, ◌∙◌}
use Rattle.cdef_spec.specs.Document01.{Plane}
use Rattle.cdef_spec.specs.Lent.{picture_in, plane_in_full}
use Rattle.cdef_spec.specs.AnswerLaws.{zero-so}
use Rattle.check_picture.specs.RefusalLaws.{refused-by, accepted}
use Rattle.check_picture.specs.StepLaws.{values-stop, samples-left, picture-values, plane-low}
use Rattle.check_frame.specs.MadeLaws.{sampled, in-force}
use Rattle.check_frame.proofs.filtering.Goals as goal

pub returns-in_err-listed-clause-refusal : goal.returns-in_err-listed-clause-refusal
returns-in_err-listed-clause-refusal c =
    let asked = rw c.in_force-damping.ensures at c.in_err-listed.ensures.refusal in
    refused-by _ _ _ c.in_err-listed.field-0.0 _ (search rules) asked (values-stop _ _ _)

pub plane-requires : goal.plane-requires
unfolding picture_in
plane-requires c = c.args.shaped.now.shaped.flat

pub returns-in_err-plane-clause-refusal : goal.returns-in_err-plane-clause-refusal
unfolding picture_in
returns-in_err-plane-clause-refusal c =
    let values-yes = zero-so c.in_ok-listed.listed _ (rw c.in_force-damping.ensures at c.in_ok-listed.ensures.refusal) in
    refused-by _ _ _ c.in_err-plane.field-0.0 _ (search rules) c.in_err-plane.ensures (λ k e h. e ∙ sym (samples-left _ _ _ values-yes))

pub invariant_of-result : goal.invariant_of-result
invariant_of-result c =
    let low = plane-low _ _ (zero-so c.in_ok-plane.field-0 _ c.in_ok-plane.ensures) in
    let taken = picture-values _ _ (zero-so c.in_ok-listed.listed _ c.in_ok-listed.ensures.refusal) in
    record { sampled = sampled _ _ _ _ c.in_ok-listed.ensures.picture c.full_plane-plane.ensures c.requires.full (unfold picture_in in low); in_force = in-force _ _ taken }

pub returns-clause-refusal : goal.returns-clause-refusal
returns-clause-refusal c =
    let values-yes = zero-so c.in_ok-listed.listed _ (rw c.in_force-damping.ensures at c.in_ok-listed.ensures.refusal) in
    accepted _ _ (samples-left _ _ _ values-yes ∙ (unfold picture_in in zero-so c.in_ok-plane.field-0 _ c.in_ok-plane.ensures))

pub returns-clause-input : goal.returns-clause-input
returns-clause-input c = record { picture = c.in_ok-listed.ensures.picture; damping = c.in_force-damping.ensures; samples = unfold plane_in_full in ap (λ (p : Plane). p.samples) c.full_plane-plane.ensures }
