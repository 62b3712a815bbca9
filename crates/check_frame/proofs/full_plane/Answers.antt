-- `check_frame::full_plane` meets its contract.
use Rattle.std.proofs.Common.{◌≤◌, arith}
use Rattle.frame_shape.specs.ShapeLaws.{plane-wide, plane-high}
use Rattle.check_frame.proofs.full_plane.Goals as goal

pub invariant_of-result : goal.invariant_of-result
invariant_of-result c =
    let wide : c.plane_width.result ≤ 4096 = omega (arith, c.plane_width.ensures, plane-wide _ c.args.shaped.now.shaped) in
    let high : c.plane_height.result ≤ 4096 = omega (arith, c.plane_height.ensures, plane-high _ c.args.shaped.now.shaped) in
    record { full = rw (c.plane_width.ensures, c.plane_height.ensures) c.requires; sides = (wide, high) }
