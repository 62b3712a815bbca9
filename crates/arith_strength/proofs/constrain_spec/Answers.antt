-- `arith_strength::constrain_spec` meets its contract.
use mathlib.Core.Path.{◌≡◌, sym, ap, ◌∙◌}
use native.Mathlib.Omega.{arith}
use Prim.Native.Nat.{ℕ, ◌^◌, ◌≤◌, ◌<◌}
use lib.IntN.{ℤ, pos, neg_ℤ, nat_abs}
use mir.Syntax.{w32}
use mir.Val.{SFits, to_z, of_z}
use mir.ValLaws.{to_z-of_z}
use Rattle.cdef_spec.specs.CodeForm.{constrain_mag}
use Rattle.cdef_spec.specs.ConstrainLaws.{mag-le}
use Rattle.cdef_spec.specs.LeafLaws.{constrain-neg, constrain-pos}
use Rattle.cdef_spec.specs.SignedLaws.{fits, back-nat, minus-fits, minus-back, is-neg, is_pos}
use Rattle.arith_strength.proofs.constrain_spec.Goals as goal

-- the constrained magnitude of the difference is small
small : (z : ℤ) (u m s d : ℕ) → SFits w32 z → nat_abs z ≤ 65535 → u ≡ nat_abs (to_z w32 (of_z w32 z)) → m ≡ constrain_mag u s d → m < 2 ^ 31
small z u m s d f h e g = omega (arith, g, mag-le u s d, e ∙ ap nat_abs (to_z-of_z w32 z f))

is : (z : ℤ) (u m s d : ℕ) → SFits w32 z → u ≡ nat_abs (to_z w32 (of_z w32 z)) → m ≡ constrain_mag u s d → m ≡ constrain_mag (nat_abs z) s d
is z u m s d f e g = g ∙ rw (e, to_z-of_z w32 z f)

pub overflow_cast-m : goal.overflow_cast-m
overflow_cast-m c = fits w32 (pos c.constrain_mag-m.result) (small _ _ _ _ _ c.ranges.diff c.requires.0 c.unsigned_abs.ensures.value c.constrain_mag-m.ensures)

pub overflow_sub-result : goal.overflow_sub-result
overflow_sub-result c = minus-fits w32 (pos c.constrain_mag-m.result) (small _ _ _ _ _ c.ranges.diff c.requires.0 c.unsigned_abs.ensures.value c.constrain_mag-m.ensures)

pub returns-then-diff-lt0 : goal.returns-then-diff-lt0
returns-then-diff-lt0 c =
    let a = c.args in
    let n = is-neg w32 a.diff c.ranges.diff c.if-diff-lt0.true in
    minus-back w32 (pos c.constrain_mag-m.result) (small _ _ _ _ _ c.ranges.diff c.requires.0 c.unsigned_abs.ensures.value c.constrain_mag-m.ensures)
    ∙ ap (λ (k : ℕ). neg_ℤ (pos k)) (is _ _ _ _ _ c.ranges.diff c.unsigned_abs.ensures.value c.constrain_mag-m.ensures ∙ ap (λ (z : ℤ). constrain_mag (nat_abs z) a.strength a.damping.0) n)
    ∙ sym (constrain-neg a.diff a.strength a.damping.0 n)

pub returns : goal.returns
returns c =
    let a = c.args in
    let n = is_pos w32 a.diff c.ranges.diff c.if-diff-lt0.false in
    back-nat w32 c.constrain_mag-m.result (small _ _ _ _ _ c.ranges.diff c.requires.0 c.unsigned_abs.ensures.value c.constrain_mag-m.ensures)
    ∙ ap pos (is _ _ _ _ _ c.ranges.diff c.unsigned_abs.ensures.value c.constrain_mag-m.ensures ∙ ap (λ (z : ℤ). constrain_mag (nat_abs z) a.strength a.damping.0) n)
    ∙ sym (constrain-pos a.diff a.strength a.damping.0 n)
