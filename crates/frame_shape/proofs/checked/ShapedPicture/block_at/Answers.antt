-- `frame_shape::checked::ShapedPicture::block_at` meets its contract.
use Rattle.std.proofs.Common.{ℕ, ◌*◌, ◌/◌, ◌≤◌, refl, arith}
use Rattle.std.proofs.Math.Nat.{mul-le-mul}
use Rattle.cdef_spec.specs.Lent.{picture_in}
use Rattle.frame_shape.specs.ShapeLaws.{luma-sides}
use Rattle.frame_shape.proofs.checked.ShapedPicture.block_at.Goals as goal

-- the index of the first block of a row
low : (by width : ℕ) → by ≤ 512 → width ≤ 4096 → by * (width / 8) ≤ 512 * 512
low by width hy hw =
    let b : width / 8 ≤ 512 = omega arith in
    mul-le-mul hy b

pub overflow_mul-result : goal.overflow_mul-result
unfolding picture_in
overflow_mul-result c = omega (arith, low _ _ c.requires.0 (luma-sides _ c.args.self.now.shaped).0)

pub overflow_add-result : goal.overflow_add-result
unfolding picture_in
overflow_add-result c = omega (arith, low _ _ c.requires.0 (luma-sides _ c.args.self.now.shaped).0, c.requires.1)

pub returns : goal.returns
unfolding picture_in
returns c = refl
