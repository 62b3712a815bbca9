-- `measure_plane::block::measure_block` meets its contract.
use Rattle.std.proofs.Common.{refl, sym, ◌∙◌, arith}
use Rattle.cdef_spec.specs.Lent.{plane_in_full}
use Rattle.frame_shape.specs.ShapeLaws.{counts-low, corner-is}
use Rattle.measure_plane.specs.RowLaws.{own-low}
use Rattle.measure_plane.specs.FilledLaws.{has_room, filled-with, filled-block}
use Rattle.measure_plane.specs.CodeLaws.{own-start, own-room, own_taken}
use Rattle.measure_plane.specs.DistanceLaws.{filtered, unfiltered}
use Rattle.measure_plane.proofs.block.measure_block.Goals as goal

pub block_of-y-requires : goal.block_of-y-requires
block_of-y-requires c = counts-low _ c.args.i.now.filter.listed.shaped.shaped _ _ c.requires.inside.0 c.requires.inside.1

pub overflow_mul-start : goal.overflow_mul-start
unfolding plane_in_full
overflow_mul-start c = let i = c.args.i.now in omega (arith, own-start _ i.filter.listed.shaped.shaped _ _ c.requires.inside.0 c.requires.inside.1 _ c.block_of-y.ensures (plane_in_full i.filter.plane) i.filter.sampled)

pub overflow_add-rows : goal.overflow_add-rows
unfolding plane_in_full
overflow_add-rows c = let i = c.args.i.now in omega (arith, own-room _ i.filter.listed.shaped.shaped _ _ c.requires.inside.0 c.requires.inside.1 _ c.block_of-y.ensures (plane_in_full i.filter.plane) i.filter.sampled _ c.requires.room)

pub offset_bounds-i-start : goal.offset_bounds-i-start
unfolding plane_in_full
offset_bounds-i-start c = let i = c.args.i.now in omega (arith, own-start _ i.filter.listed.shaped.shaped _ _ c.requires.inside.0 c.requires.inside.1 _ c.block_of-y.ensures (plane_in_full i.filter.plane) i.filter.sampled)

pub slice_bounds-rows-end : goal.slice_bounds-rows-end
unfolding plane_in_full
slice_bounds-rows-end c = let i = c.args.i.now in omega (arith, own-room _ i.filter.listed.shaped.shaped _ _ c.requires.inside.0 c.requires.inside.1 _ c.block_of-y.ensures (plane_in_full i.filter.plane) i.filter.sampled _ c.requires.room)

pub rows_distance-requires-clause-low : goal.rows_distance-requires-clause-low
unfolding plane_in_full
rows_distance-requires-clause-low c =
    let i = c.args.i.now in
    let h = i.filter.listed.shaped.shaped in
    let r = c.requires in
    rw (own_taken _ h _ _ r.inside.0 r.inside.1 _ c.block_of-y.ensures (plane_in_full i.filter.plane) i.filter.sampled _ r.room _ refl) (own-low _ h _ _ r.inside.0 r.inside.1 (plane_in_full i.filter.plane) i.filter.sampled _ r.room)

pub returns-then-is_off-clause-distance : goal.returns-then-is_off-clause-distance
unfolding plane_in_full
returns-then-is_off-clause-distance c =
    let i = c.args.i.now in
    let h = i.filter.listed.shaped.shaped in
    let r = c.requires in
    c.rows_distance.ensures.distance
    ∙ unfiltered _ h _ _ _ r.inside.0 r.inside.1 i.filter.damping c.args.p.pair (plane_in_full i.filter.plane) (plane_in_full i.original) (sym c.is_off.ensures ∙ c.if-is_off.true) i.filter.sampled _ r.room _ (own_taken _ h _ _ r.inside.0 r.inside.1 _ c.block_of-y.ensures (plane_in_full i.filter.plane) i.filter.sampled _ r.room _ refl)

pub filter_block-requires : goal.filter_block-requires
filter_block-requires c =
    let i = c.args.i.now in
    let y = (corner-is _ _ _ _ c.block_of-y.ensures).1 in
    record { inside = c.requires.inside; begins = omega (arith, y); room = has_room _ i.filter.listed.shaped.shaped _ i.filter.sampled i.filter.damping c.args.p.pair _ _ c.requires.inside.0 c.requires.inside.1 _ _ y c.requires.room }

pub rows_distance-requires-2-clause-low : goal.rows_distance-requires-2-clause-low
unfolding plane_in_full
rows_distance-requires-2-clause-low c =
    let i = c.args.i.now in
    filled-block _ i.filter.listed.shaped.shaped (plane_in_full i.filter.plane) i.filter.sampled i.filter.damping c.args.p.pair _ _ c.requires.inside.0 c.requires.inside.1 _ _ _ (corner-is _ _ _ _ c.block_of-y.ensures).1 c.requires.room c.filter_block.ensures

pub returns-clause-distance : goal.returns-clause-distance
unfolding plane_in_full
returns-clause-distance c =
    let i = c.args.i.now in
    let h = i.filter.listed.shaped.shaped in
    let r = c.requires in
    c.rows_distance-2.ensures.distance
    ∙ filtered _ h _ _ _ r.inside.0 r.inside.1 i.filter.damping c.args.p.pair (plane_in_full i.filter.plane) (plane_in_full i.original) (sym c.is_off.ensures ∙ c.if-is_off.false) _
    (filled-with _ h (plane_in_full i.filter.plane) i.filter.sampled i.filter.damping c.args.p.pair _ _ r.inside.0 r.inside.1 _ _ _ (corner-is _ _ _ _ c.block_of-y.ensures).1 r.room c.filter_block.ensures)
