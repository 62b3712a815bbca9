-- `try_blocks::make_trials` meets its contract.
use Rattle.std.proofs.Common.{◌∙◌, arith}
use Rattle.cdef_spec.specs.Lent.{picture_in, plane_in_full}
use Rattle.frame_shape.specs.ShapeLaws.{counts-low, number-low}
use Rattle.frame_shape.specs.SampledLaws.{has-variance, plane-is, block_in, window-low}
use Rattle.try_blocks.specs.TrialBlockLaws.{dir-low, damping-low, trials-are}
use Rattle.try_blocks.proofs.make_trials.Goals as goal

pub block_of-b-requires : goal.block_of-b-requires
block_of-b-requires c = counts-low _ c.args.i.now.listed.shaped.shaped _ _ c.requires.inside.0 c.requires.inside.1

pub block_at-k-requires : goal.block_at-k-requires
block_at-k-requires c = counts-low _ c.args.i.now.listed.shaped.shaped _ _ c.requires.inside.0 c.requires.inside.1

pub way_of-way-requires : goal.way_of-way-requires
way_of-way-requires c = let l = c.args.i.now.listed in rw c.block_at-k.ensures (has-variance _ l.listed _ (number-low _ l.shaped.shaped _ _ c.requires.inside.0 c.requires.inside.1))

pub dir_of-dir-requires : goal.dir_of-dir-requires
unfolding picture_in
dir_of-dir-requires c = let l = c.args.i.now.listed in (omega (arith, c.block_at-k.ensures, l.listed.dirs-long, number-low _ l.shaped.shaped _ _ c.requires.inside.0 c.requires.inside.1), l.listed.dirs-low _)

pub damping_of-damping-requires : goal.damping_of-damping-requires
damping_of-damping-requires c = let h = c.args.i.now.in_force in (h.least, h.most)

pub invariant_of-params : goal.invariant_of-params
unfolding picture_in
invariant_of-params c =
    let i = c.args.i.now in
    let h = i.listed.shaped.shaped in record {
      taken = (rw c.dir_of-dir.ensures (dir-low _ _ _ (i.listed.listed.dirs-low _)), rw c.damping_of-damping.ensures (damping-low _ _ _ i.in_force h.flat));
      deep = (h.deep, h.flat);
    }

pub cdef_block_candidates-requires : goal.cdef_block_candidates-requires
unfolding picture_in plane_in_full
cdef_block_candidates-requires c =
    let i = c.args.i.now in
    let h = i.listed.shaped.shaped in (rw c.block_of-b.ensures (block_in _ h _ i.sampled _ _ c.requires.inside.0 c.requires.inside.1), window-low _ h _ i.sampled _, c.requires.room)

pub returns : goal.returns
unfolding picture_in plane_in_full
returns c =
    let i = c.args.i.now in
    c.cdef_block_candidates.ensures ∙ trials-are _ i.damping _ (plane-is _ i.listed.shaped.shaped _ i.sampled) _ _ _ _ _ _ _ _ c.block_of-b.ensures c.block_at-k.ensures c.way_of-way.ensures c.dir_of-dir.ensures c.damping_of-damping.ensures
