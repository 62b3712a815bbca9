-- `measure_plane::block::rows_distance` meets its contract.
use Rattle.std.proofs.Common.{◌≡◌}
use Rattle.cdef_spec.specs.Lent.{plane_in_full}
use Rattle.frame_shape.specs.ShapeLaws.{counts-low, corner-is}
use Rattle.distance_sums.specs.Blocks.{at}
use Rattle.distance_visible.specs.Cut.{cut_distance}
use Rattle.measure_plane.specs.CodeLaws.{rows_taken}
use Rattle.measure_plane.specs.DistanceLaws.{rows-distance}
use Rattle.measure_plane.proofs.block.rows_distance.Goals as goal

pub block_of-b-requires : goal.block_of-b-requires
block_of-b-requires c = counts-low _ c.args.i.now.filter.listed.shaped.shaped _ _ c.requires.inside.0 c.requires.inside.1

pub distance_cut-requires : goal.distance_cut-requires
unfolding plane_in_full
distance_cut-requires c =
    let r = c.requires in
    let m = c.part_of-part.ensures in
    rows_taken _ c.args.i.now.filter.listed.shaped.shaped c.args.i.now.visible _ _ r.inside.0 r.inside.1 _ r.room r.low _ _ _ _ _ m.sides.0 m.sides.1 m.depth (corner-is _ _ _ _ c.block_of-b.ensures).0 m.pitch

pub returns-clause-distance : goal.returns-clause-distance
unfolding plane_in_full
returns-clause-distance c =
    let i = c.args.i.now in
    let r = c.requires in
    let m = c.part_of-part.ensures in
    let p = c.part_of-part.result in
    let e : c.distance_cut.result ≡ cut_distance p.weights p.rows p.cols (at p.samples.now p.start p.pitch) (at c.args.rows.now c.block_of-b.result.x p.pitch) = c.distance_cut.ensures.0 in
    rows-distance _ i.filter.listed.shaped.shaped _ _ _ r.inside.0 r.inside.1 _ (plane_in_full i.original) r.room i.original_sampled _ _ _ _ _ _ _ _ m.weights m.sides.0 m.sides.1 m.samples m.start m.pitch (corner-is _ _ _ _ c.block_of-b.ensures).0 e
