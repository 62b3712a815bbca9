-- `frame_shape::checked::ShapedPicture::units` meets its contract.
use Rattle.std.proofs.Common.{◌≡◌, ◌+◌, ◌*◌, ◌/◌, refl, arith}
use Rattle.cdef_spec.specs.Lent.{picture_in}
use Rattle.cdef_spec.specs.Picture.{units}
use Rattle.frame_shape.specs.ShapeLaws.{ceil_is, units-few}
use Rattle.frame_shape.proofs.checked.ShapedPicture.units.Goals as goal

pub overflow_mul-result : goal.overflow_mul-result
unfolding picture_in units
overflow_mul-result c =
    let e : c.div_ceil.result * c.div_ceil-2.result ≡ (c.args.self.now.picture.height + 63) / 64 * ((c.args.self.now.picture.width + 63) / 64) = rw (ceil_is _ _ c.div_ceil.ensures, ceil_is _ _ c.div_ceil-2.ensures) in
    omega (arith, e, units-few _ c.args.self.now.shaped)

pub returns : goal.returns
unfolding picture_in units
returns c = rw (ceil_is _ _ c.div_ceil.ensures, ceil_is _ _ c.div_ceil-2.ensures) (refl, units-few _ c.args.self.now.shaped)
