-- `frame_shape::checked::ShapedPicture::unit_at` meets its contract.
use Rattle.std.proofs.Common.{ℕ, ◌≡◌, ◌+◌, ◌*◌, ◌/◌, ◌≤◌, refl, arith}
use Rattle.std.proofs.Math.Nat.{mul-le-mul}
use Rattle.cdef_spec.specs.Lent.{picture_in}
use Rattle.cdef_spec.specs.Picture.{unit_at}
use Rattle.frame_shape.specs.ShapeLaws.{luma-sides, ceil_is}
use Rattle.frame_shape.proofs.checked.ShapedPicture.unit_at.Goals as goal

-- the first unit of a row of units
low : (by width n : ℕ) → by ≤ 512 → width ≤ 4096 → n ≡ (width + 63) / 64 → by / 8 * n ≤ 64 * 64
low by width n hy hw e =
    let a : by / 8 ≤ 64 = omega arith in
    let b : n ≤ 64 = omega arith in
    mul-le-mul a b

pub overflow_mul-result : goal.overflow_mul-result
unfolding picture_in
overflow_mul-result c = omega (arith, low _ _ _ c.requires.0 (luma-sides _ c.args.self.now.shaped).0 (ceil_is _ _ c.div_ceil.ensures))

pub overflow_add-result : goal.overflow_add-result
unfolding picture_in
overflow_add-result c = omega (arith, low _ _ _ c.requires.0 (luma-sides _ c.args.self.now.shaped).0 (ceil_is _ _ c.div_ceil.ensures), c.requires.1)

pub returns : goal.returns
unfolding unit_at picture_in
returns c = rw (ceil_is _ _ c.div_ceil.ensures) refl
