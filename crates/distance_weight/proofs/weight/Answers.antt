-- `distance_weight::weight` meets its contract: the code is the definition's sequence, with 0.5 by its bits, and the square root is that of a normal number.
use mathlib.Core.Path.{ap, ◌∙◌}
use Prim.Native.Nat.{ℕ, ◌≤◌}
use native.Mathlib.Omega.{arith}
use lib.Dec.{lit≤}
use lib.Ieee.{Float, binary64, add, mul, div}
use Rattle.cdef_spec.specs.Distance.{whole, half, weight}
use Rattle.distance_weight.specs.Weighing.{most}
use Rattle.distance_weight.specs.SequenceLaws.{radicand}
use Rattle.distance_weight.specs.WeighingLaws.{in-float, Bounds, bounds, limit-most, half_is}
use Rattle.distance_weight.proofs.weight.Goals as goal
use Rattle.distance_weight.proofs.weight.Goals.{Start}

known : (s : Start) → Bounds s.args.c
known s = bounds s.args.c s.requires.0 s.requires.1

a-low : (s : Start) → s.args.a ≤ most
a-low s = omega (arith, s.requires.2, limit-most s.requires.0 s.requires.1.flat)

b-low : (s : Start) → s.args.b ≤ most
b-low s = omega (arith, s.requires.3, limit-most s.requires.0 s.requires.1.flat)

pub int_to_float-fa : goal.int_to_float-fa
int_to_float-fa c = in-float c.before.args.a (omega (arith, a-low c.before.before))

pub int_to_float-fb : goal.int_to_float-fb
int_to_float-fb c = in-float c.before.before.args.b (omega (arith, b-low c.before.before.before))

pub root-requires : goal.root-requires
root-requires c = let s = c.before.before.before.before in
    let k = known s.before in
    (radicand k.C1 k.C2 s.args.a s.args.b 0 s.args.c.c1 s.args.c.c2 k.h1 k.h2 k.l1 k.l2 k.u2 (a-low s.before) (b-low s.before) (lit≤ tt)).is_normal

-- the last line of the body, with 0.5 and the square root as arguments
abbrev seq : Float → Float → Float → ℕ → ℕ → Float
seq h r c1 a b = div binary64 (mul binary64 h (add binary64 (add binary64 (whole a) (whole b)) c1)) r

pub returns : goal.returns
unfolding weight
returns c = let s = c.before.before.before.before.before in
    ap (λ (h : Float). seq h c.root.result s.args.c.c1 s.args.a s.args.b) half_is
    ∙ ap (λ (z : Float). seq half z s.args.c.c1 s.args.a s.args.b) c.root.ensures.0
