-- `frame_shape::checked::ShapedPicture::params_for` meets its contract.
use Rattle.std.proofs.Common.{arith}
use Rattle.arith_strength.specs.StrengthLaws.{limit}
use Rattle.cdef_spec.specs.Lent.{picture_in}
use Rattle.frame_shape.specs.FrameLaws.{params_are}
use Rattle.frame_shape.proofs.checked.ShapedPicture.params_for.Goals as goal

pub returns : goal.returns
unfolding picture_in
returns c =
    let a = c.args in
    let q = a.self.now.picture in
    rw (c.from.ensures, limit a.p.pair.secondary q.depth (omega (arith, a.p.low.1)) a.self.now.shaped.flat, params_are _ _ q.dirs.now a.d a.p.pair a.b, c.primary_of.ensures, c.dir_for.ensures, c.damping_of.ensures)
