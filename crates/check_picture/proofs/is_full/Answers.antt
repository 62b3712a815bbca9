-- `check_picture::is_full` meets its contract.
use Rattle.std.proofs.Common.{◌≤◌, arith}
use Rattle.std.proofs.Math.Nat.{mul-le-mul}
use Rattle.frame_shape.specs.ShapeLaws.{plane-wide, plane-high}
use Rattle.check_picture.proofs.is_full.Goals as goal

pub overflow_mul-result : goal.overflow_mul-result
overflow_mul-result c =
    let wide : c.plane_width.result ≤ 4096 = omega (arith, c.plane_width.ensures, plane-wide _ c.args.shaped.now.shaped) in
    let high : c.plane_height.result ≤ 4096 = omega (arith, c.plane_height.ensures, plane-high _ c.args.shaped.now.shaped) in
    omega (arith, mul-le-mul wide high)
