-- `check_frame::comparing` meets its contract.
use Rattle.std.proofs.Common.{rules, refl, sym, ap, ◌∙◌}
use Rattle.cdef_spec.specs.Document01.{Plane}
use Rattle.cdef_spec.specs.Lent.{picture_in, plane_in_full}
use Rattle.cdef_spec.specs.AnswerLaws.{zero-so}
use Rattle.check_picture.specs.RefusalLaws.{refused-by, accepted}
use Rattle.check_picture.specs.StepLaws.{values-stop, samples-left, plane-stops, plane-passes, first-long, second-long, lists-long, picture-values, plane-low}
use Rattle.check_frame.specs.MadeLaws.{sampled, in-force, seen}
use Rattle.check_frame.proofs.comparing.Goals as goal

pub values-requires : goal.values-requires
values-requires c = lists-long _ _ _ c.requires.lists

pub returns-in_err-listed-clause-refusal : goal.returns-in_err-listed-clause-refusal
returns-in_err-listed-clause-refusal c =
    let asked = rw c.in_force-damping.ensures at c.in_err-listed.ensures.refusal in
    refused-by _ _ _ c.in_err-listed.field-0.0 _ (search rules) asked (values-stop _ _ _)

pub plane-requires : goal.plane-requires
unfolding picture_in
plane-requires c = c.args.shaped.now.shaped.flat

pub returns-in_err-plane-clause-refusal : goal.returns-in_err-plane-clause-refusal
unfolding picture_in
returns-in_err-plane-clause-refusal c =
    let values-yes = zero-so c.in_ok-listed.listed _ (rw c.in_force-damping.ensures at c.in_ok-listed.ensures.refusal) in
    refused-by _ _ _ c.in_err-plane.field-0.0 _ (search rules) c.in_err-plane.ensures (λ k e h. plane-stops _ _ _ k e h ∙ sym (samples-left _ _ _ values-yes))

pub plane-requires-2 : goal.plane-requires-2
unfolding picture_in
plane-requires-2 c = c.args.shaped.now.shaped.flat

pub returns-in_err-plane-2-clause-refusal : goal.returns-in_err-plane-2-clause-refusal
unfolding picture_in
returns-in_err-plane-2-clause-refusal c =
    let values-yes = zero-so c.in_ok-listed.listed _ (rw c.in_force-damping.ensures at c.in_ok-listed.ensures.refusal) in
    let plane-yes = zero-so c.in_ok-plane.field-0 _ c.in_ok-plane.ensures in
    refused-by _ _ _ c.in_err-plane-2.field-0.0 _ (search rules) c.in_err-plane-2.ensures (λ k e h. e ∙ sym (samples-left _ _ _ values-yes ∙ plane-passes _ _ _ plane-yes))

pub full_plane-plane-requires : goal.full_plane-plane-requires
full_plane-plane-requires c = first-long _ _ _ c.requires.lists

pub full_plane-original-requires : goal.full_plane-original-requires
full_plane-original-requires c = second-long _ _ _ c.requires.lists

pub invariant_of-filter : goal.invariant_of-filter
invariant_of-filter c =
    let long = first-long _ _ _ c.requires.lists in
    let low = plane-low _ _ (zero-so c.in_ok-plane.field-0 _ c.in_ok-plane.ensures) in
    let taken = picture-values _ _ (zero-so c.in_ok-listed.listed _ c.in_ok-listed.ensures.refusal) in
    record { sampled = sampled _ _ _ _ c.in_ok-listed.ensures.picture c.full_plane-plane.ensures long (unfold picture_in in low); in_force = in-force _ _ taken }

pub invariant_of-result : goal.invariant_of-result
invariant_of-result c =
    let long = second-long _ _ _ c.requires.lists in
    let low = plane-low _ _ (zero-so c.in_ok-plane-2.field-0 _ c.in_ok-plane-2.ensures) in
    record { original_sampled = sampled _ _ _ _ c.in_ok-listed.ensures.picture c.full_plane-original.ensures long (unfold picture_in in low); seen = seen _ _ _ c.in_ok-listed.ensures.picture c.requires.visible }

pub returns-clause-refusal : goal.returns-clause-refusal
returns-clause-refusal c =
    let values-yes = zero-so c.in_ok-listed.listed _ (rw c.in_force-damping.ensures at c.in_ok-listed.ensures.refusal) in
    let plane-yes = zero-so c.in_ok-plane.field-0 _ c.in_ok-plane.ensures in
    accepted _ _ (unfold picture_in in (samples-left _ _ _ values-yes ∙ (plane-passes _ _ _ plane-yes ∙ zero-so c.in_ok-plane-2.field-0 _ c.in_ok-plane-2.ensures)))

pub returns-clause-input : goal.returns-clause-input
unfolding plane_in_full
returns-clause-input c =
    record {
      filter = record { picture = c.in_ok-listed.ensures.picture; damping = c.in_force-damping.ensures; samples = ap (λ (p : Plane). p.samples) c.full_plane-plane.ensures };
      original = ap (λ (p : Plane). p.samples) c.full_plane-original.ensures;
      visible = refl;
    }
