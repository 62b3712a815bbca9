-- `arith_sample::constrain_tap` meets its contract.
use mathlib.Core.Path.{◌≡◌, ◌∙◌}
use Prim.Native.Nat.{◌≤◌}
use native.Mathlib.Omega.{arith}
use lib.IntN.{pos, nat_abs, ◌-ℤ◌}
use Rattle.cdef_spec.specs.SignedLaws.{size-diff}
use Rattle.arith_sample.specs.Sample.{con_of}
use Rattle.arith_sample.specs.SampleLaws.{size-con}
use Rattle.arith_sample.specs.HeldLaws.{held-con}
use Rattle.arith_sample.proofs.Sums16.{back, back-nat}
use Rattle.arith_sample.proofs.constrain_tap.Goals as goal

pub returns : goal.returns
returns c =
    let a = c.args in
    let q = c.requires in
    let d = pos a.p -ℤ pos a.c in
    let small : nat_abs d ≤ 32767 = omega (arith, size-diff a.p a.c, q.0, q.1) in
    let e : c.held.result ≡ con_of a.p a.c a.s a.sh =
    c.held.ensures ∙ rw (c.saturating_sub.ensures, c.unsigned_abs.ensures.value, back-nat a.p (omega (arith, q.0)), back-nat a.c (omega (arith, q.1)), back d small) (held-con a.p a.c a.s a.sh) in
    rw e (back _ (omega (arith, size-con a.p a.c a.s a.sh, q.2)))
