-- `arith_sample::clipped` meets its contract.
use mathlib.Core.Path.{◌≡◌, sym, ap, ◌∙◌}
use Prim.Native.Nat.{◌≤◌, min}
use native.Mathlib.Omega.{arith}
use lib.IntN.{pos, nat_abs}
use lib.Signed.{mag}
use mir.Syntax.{w16}
use mir.Val.{to_z, of_z}
use Rattle.arith_sample.specs.Sample.{moved_of, over_of, under_of}
use Rattle.arith_sample.specs.SampleLaws.{held-nat}
use Rattle.arith_sample.proofs.Sums16.{back, back-nat, size-moved, size-over}
use Rattle.arith_sample.proofs.clipped.Goals as goal

pub returns : goal.returns
unfolding over_of under_of
returns c =
    let a = c.args in
    let q = c.requires in
    let m = moved_of a.c a.sum in
    let v = over_of m a.lo in
    let low : nat_abs m ≤ 32767 = omega (arith, size-moved a.c a.sum, q.0, q.1) in
    let moved : to_z w16 (of_z w16 c.moved.result) ≡ m = rw (c.moved.ensures, back a.sum (omega (arith, q.1))) (back m low) in
    let over : c.max.result ≡ v = c.max.ensures.value ∙ rw (back-nat a.lo (omega (arith, q.2)), moved) in
    let over-back : to_z w16 (of_z w16 c.max.result) ≡ v = rw over (back v (size-over m a.lo 32767 low (omega (arith, q.2)))) in
    let under : c.min.result ≡ pos (min (mag v) a.hi) = c.min.ensures.value ∙ rw (back-nat a.hi (omega (arith, q.3)), over-back) (held-nat m a.lo a.hi) in
    rw (under, back (pos (min (mag v) a.hi)) (omega (arith, q.3))) (sym (ap mag (held-nat m a.lo a.hi)))
