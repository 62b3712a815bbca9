-- `frame_shape::checked::ShapedPicture::primary_of` meets its contract.
use Rattle.std.proofs.Common.{◌∙◌, arith}
use Rattle.arith_strength.specs.StrengthLaws.{limit, limit-low}
use Rattle.cdef_spec.specs.Lent.{kind_in, picture_in}
use Rattle.frame_shape.specs.Frame.{primary_of}
use Rattle.frame_shape.proofs.checked.ShapedPicture.primary_of.Goals as goal

pub variance_of-requires : goal.variance_of-requires
unfolding picture_in kind_in
variance_of-requires c = rw c.in-Luma.is at c.requires.0

pub adjust_pri-requires : goal.adjust_pri-requires
unfolding picture_in
adjust_pri-requires c = let h = c.args.self.now.shaped.flat in rw c.from.ensures (omega (arith, limit c.args.s c.args.self.now.picture.depth c.requires.1 h, limit-low c.args.s c.args.self.now.picture.depth c.requires.1 h))

pub returns-in-Luma : goal.returns-in-Luma
unfolding picture_in kind_in primary_of
returns-in-Luma c = rw c.in-Luma.is (c.adjust_pri.ensures ∙ rw (c.variance_of.ensures, c.from.ensures, limit c.args.s c.args.self.now.picture.depth c.requires.1 c.args.self.now.shaped.flat))

pub returns-in-Chroma : goal.returns-in-Chroma
unfolding picture_in kind_in primary_of
returns-in-Chroma c = rw (c.in-Chroma.is, c.from.ensures) (limit c.args.s c.args.self.now.picture.depth c.requires.1 c.args.self.now.shaped.flat)
