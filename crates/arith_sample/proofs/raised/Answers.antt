-- `arith_sample::raised` meets its contract.
use mathlib.Core.Path.{◌≡◌, ap, ◌∙◌}
use Prim.Native.Nat.{◌≤◌}
use native.Mathlib.Omega.{arith}
use lib.IntN.{nat_abs}
use mir.Syntax.{w16}
use mir.Val.{to_z, of_z}
use Rattle.arith_sample.specs.Sample.{moved_of, over_of}
use Rattle.arith_sample.specs.SampleLaws.{over-is-nat}
use Rattle.arith_sample.proofs.Sums16.{back, size-moved, size-over}
use Rattle.arith_sample.proofs.raised.Goals as goal

pub returns : goal.returns
unfolding over_of
returns c =
    let a = c.args in
    let q = c.requires in
    let m = moved_of a.c a.sum in
    let v = over_of m 0 in
    let low : nat_abs m ≤ 32767 = omega (arith, size-moved a.c a.sum, q.0, q.1) in
    let moved : to_z w16 (of_z w16 c.moved.result) ≡ m = rw (c.moved.ensures, back a.sum (omega (arith, q.1))) (back m low) in
    let over : c.max.result ≡ v = c.max.ensures.value ∙ rw moved in
    rw (over, back v (size-over m 0 32767 low (omega arith))) (ap nat_abs (over-is-nat m 0))
