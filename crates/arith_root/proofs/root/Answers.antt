-- `arith_root::root` meets its contract.
use mathlib.Core.Path.{◌≡◌, sym, ap, subst}
use Prim.Native.Nat.{ℕ, ◌+◌, ◌-◌, ◌*◌, ◌/◌, ◌^◌, ◌≤◌, ◌<◌}
use native.Mathlib.Omega.{arith}
use lib.Dec.{T}
use lib.Ieee.{Float, binary64, fits, of_bits, to_bits}
use Rattle.cdef_spec.specs.Root.{root_of, IsNearestRoot}
use Rattle.arith_root.specs.PatternLaws.{pattern-range, normal-no-nan, pattern-no-nan}
use Rattle.arith_root.specs.RootLaws.{Moved, even-case, odd-case, found-range, found, found-normal}
use Rattle.arith_root.specs.NearestLaws.{root-nearest}
use Rattle.arith_root.proofs.root.Goals as goal
use Rattle.arith_root.proofs.root.Goals.{After-wide_root-n, Joined-field-eq0, Start, else-field-eq0, then-field-eq0}

pub float_to_bits-b : goal.float_to_bits-b
float_to_bits-b c = normal-no-nan c.args.v c.requires

fits-so : (c : Start) → T (fits binary64 c.args.v)
fits-so c = subst T (sym c.well_formed.0.1) tt

abbrev B : Joined-field-eq0 → ℕ
B c = to_bits binary64 c.before.args.v

moved : (c : Joined-field-eq0) → Moved (B c) c.if-field-eq0.h
moved c = elim c.if-field-eq0.branch [ then-field-eq0 w ↦ even-case (B c) c.if-field-eq0.h w.if-field-eq0.true w.h-is | else-field-eq0 w ↦ odd-case (B c) c.if-field-eq0.h w.if-field-eq0.false w.h-is ]

pub wide_root-n-requires : goal.wide_root-n-requires
wide_root-n-requires c = omega (arith, moved c)

-- the exponent field, the square root's range and the pattern's range, where the square root is known
record Known (b n : ℕ) : Type 0 where
  b-low : 2 ^ 52 ≤ b
  b-high : b < 9218868437227405312
  n-low : 2 ^ 52 ≤ n
  n-high : n < 2 ^ 53

known : (c : After-wide_root-n) → Known (B c.before) c.wide_root-n.result
known c =
    let r = pattern-range c.before.before.args.v (fits-so c.before.before) c.before.before.requires in
    let n = found-range (B c.before) c.before.if-field-eq0.h c.wide_root-n.result (moved c.before) c.wide_root-n.ensures in
    record { b-low = r.0; b-high = r.1; n-low = n.0; n-high = n.1 }

pub overflow_add-result : goal.overflow_add-result
overflow_add-result c = omega (arith, known c)

pub overflow_mul-result : goal.overflow_mul-result
overflow_mul-result c = omega (arith, known c)

pub overflow_sub-result : goal.overflow_sub-result
overflow_sub-result c = omega (arith, known c)

pub overflow_add-result-2 : goal.overflow_add-result-2
overflow_add-result-2 c = omega (arith, known c)

pub float_from_bits-result : goal.float_from_bits-result
float_from_bits-result c = let b = B c.before in
    let n = c.wide_root-n.result in
    let p = (b / 2 ^ 52 + 1023) / 2 * 2 ^ 52 + (n - 2 ^ 52) in
    let k = known c in
    let r = found-normal b n k.b-low k.b-high k.n-low k.n-high in
    pattern-no-nan p r.0 r.1

is-root : (c : After-wide_root-n) → of_bits binary64 ((B c.before / 2 ^ 52 + 1023) / 2 * 2 ^ 52 + (c.wide_root-n.result - 2 ^ 52)) ≡ root_of c.before.before.args.v
unfolding root_of
is-root c = ap (of_bits binary64) (found (B c.before) c.before.if-field-eq0.h c.wide_root-n.result (moved c.before) c.wide_root-n.ensures)

pub returns : goal.returns
returns c = let s = c.before.before in
    (is-root c, subst (λ (z : Float). IsNearestRoot s.args.v z) (sym (is-root c)) (root-nearest s.args.v (fits-so s) s.requires))
