-- `arith_sample::held` meets its contract.
use mathlib.Core.Path.{◌≡◌, ◌∙◌}
use mir.Syntax.{w16}
use mir.Val.{to_z, of_z}
use Rattle.arith_sample.specs.Sample.{under_of, held_of}
use Rattle.arith_sample.specs.HeldLaws.{size-under, size-held}
use Rattle.arith_sample.proofs.Sums16.{back, back-nat, minus-back}
use Rattle.arith_sample.proofs.held.Goals as goal

pub returns : goal.returns
unfolding under_of held_of
returns c =
    let a = c.args in
    let m : c.min.result ≡ under_of a.d a.l = c.min.ensures.value ∙ rw (back-nat a.l c.requires.1, back a.d c.requires.0) in
    let under : to_z w16 (of_z w16 c.min.result) ≡ under_of a.d a.l = rw m (back (under_of a.d a.l) (size-under a.d a.l c.requires.0 c.requires.1)) in
    let e : c.max.result ≡ held_of a.d a.l = c.max.ensures.value ∙ rw (minus-back a.l c.requires.1, under) in
    rw e (back (held_of a.d a.l) (size-held a.d a.l c.requires.0 c.requires.1))
