-- `distance_weight::times` meets its contract: the value that is truncated is the definition's, at least 0.5 and below 2 ^ 53.
use mathlib.Core.Path.{sym, ap, ◌∙◌, subst}
use Prim.Native.Nat.{ℕ, ◌≤◌}
use native.Mathlib.Omega.{arith}
use lib.Dec.{T}
use lib.Ieee.{Float, binary64, add, mul, lt, to_unsigned}
use Rattle.cdef_spec.specs.Distance.{whole, half, weight, squares_limit}
use Rattle.arith_root.specs.RootWords.{normal, two53}
use Rattle.distance_weight.specs.Weighing.{most, times_of}
use Rattle.distance_weight.specs.SequenceLaws.{truncate-ready}
use Rattle.distance_weight.specs.WeighingLaws.{in-float, bounds, limit-most, half_is}
use Rattle.distance_weight.proofs.times.Goals as goal
use Rattle.distance_weight.proofs.times.Goals.{Start}

low : (s : Start) (n : ℕ) → n ≤ squares_limit s.requires.depth → n ≤ most
low s n h = omega (arith, h, limit-most s.requires.depth s.requires.deep.flat)

-- the value that is truncated, with 0.5 and the weight as arguments
abbrev seq : Float → Float → ℕ → Float
seq h w e = add binary64 h (mul binary64 (whole e) w)

pub int_to_float-e : goal.int_to_float-e
int_to_float-e c = in-float c.before.args.e (omega (arith, low c.before.before _ c.before.requires.error-low))

pub truncate-requires : goal.truncate-requires
unfolding weight
truncate-requires c = let s = c.before in
    let p = s.requires in
    let k = bounds p.constants p.depth p.deep in
    subst (λ (z : Float). (T (normal z)) × (T (lt z two53)))
    (sym (ap (λ (h : Float). seq h s.args.w s.args.e) half_is ∙ ap (λ (z : Float). seq half z s.args.e) p.is))
    (truncate-ready k.C1 k.C2 p.first p.second s.args.e p.constants.c1 p.constants.c2 k.h1 k.h2 k.l1 k.l2 k.u2 (low s.before _ p.first-low) (low s.before _ p.second-low) (low s.before _ p.error-low))

pub returns : goal.returns
unfolding times_of
returns c = let s = c.before.before in
    c.truncate.ensures ∙ ap (to_unsigned 64) (ap (λ (h : Float). seq h s.args.w s.args.e) half_is)
