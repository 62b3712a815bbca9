-- `measure_plane::totals::measure_one` meets its contract.
use Rattle.std.proofs.Common.{sym, ap, ◌∙◌, arith}
use Rattle.cdef_spec.specs.Lent.{picture_in}
use Rattle.cdef_spec.specs.LoopForm.{signed}
use Rattle.cdef_spec.specs.GeometryLaws.{unit-low}
use Rattle.frame_shape.specs.ShapeLaws.{counts-low, number-low}
use Rattle.frame_shape.specs.CountedLaws.{begins-inside}
use Rattle.frame_shape.specs.SampledLaws.{seen-low}
use Rattle.measure_plane.specs.AddLaws.{one-counted, one-passed}
use Rattle.measure_plane.proofs.totals.measure_one.Goals as goal

pub counted-requires : goal.counted-requires
unfolding picture_in
counted-requires c =
    let i = c.args.i.now in
    let h = i.filter.listed.shaped.shaped in
    let n = counts-low _ h _ _ c.requires.inside.0 c.requires.inside.1 in
    record { seen = seen-low _ h _ i.seen; inside = (n.0, n.1, omega (arith, number-low _ h _ _ c.requires.inside.0 c.requires.inside.1, i.filter.listed.listed.skip-long)) }

pub returns-then-not-counted : goal.returns-then-not-counted
returns-then-not-counted c = λ t e. e ∙ ap signed (sym (one-passed _ _ _ _ _ _ (sym c.counted.ensures ∙ c.if-not-counted.true)))

pub measure_block-n-requires-clause-begun : goal.measure_block-n-requires-clause-begun
measure_block-n-requires-clause-begun c = begins-inside _ _ _ _ (sym c.counted.ensures ∙ c.if-not-counted.false)

pub unit_at-requires : goal.unit_at-requires
unit_at-requires c = counts-low _ c.args.i.now.filter.listed.shaped.shaped _ _ c.requires.inside.0 c.requires.inside.1

pub add_at-requires : goal.add_at-requires
add_at-requires c = (rw (c.unit_at.ensures, c.requires.lengths.1) (unit-low _ _ _ c.requires.inside.0 c.requires.inside.1), c.measure_block-n.ensures.small, c.requires.small)

pub returns : goal.returns
returns c = λ t e. c.add_at.ensures t e ∙ ap signed (rw (c.unit_at.ensures, c.measure_block-n.ensures.distance) (sym (one-counted _ _ _ _ _ _ (sym c.counted.ensures ∙ c.if-not-counted.false))))
