-- `check_picture::picture_listed` meets its contract.
use Rattle.std.proofs.Common.{arith}
use Rattle.std.proofs.Math.Nat.{mul-le-mul}
use Rattle.cdef_spec.specs.Lent.{picture_in}
use Rattle.frame_shape.specs.ShapeLaws.{blocks-few}
use Rattle.check_picture.proofs.picture_listed.Goals as goal

pub overflow_mul-n : goal.overflow_mul-n
unfolding picture_in
overflow_mul-n c = let few = blocks-few _ c.args.shaped.now.shaped in omega (arith, mul-le-mul few.0 few.1)
