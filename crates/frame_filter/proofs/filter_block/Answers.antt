-- `frame_filter::filter_block` meets its contract.
use Rattle.std.proofs.Common.{sym, ◌∙◌}
use Rattle.cdef_spec.specs.Lent.{plane_in_full}
use Rattle.filter_window.specs.FilledLaws.{begins-in}
use Rattle.frame_shape.specs.ShapeLaws.{counts-low, number-low, block-sides}
use Rattle.frame_shape.specs.SampledLaws.{has-params, sample-low, sample-byte, block_in}
use Rattle.frame_shape.specs.UsableLaws.{usable, depth-kept}
use Rattle.frame_filter.specs.StoredLaws.{top-in, room, stored-is}
use Rattle.frame_filter.proofs.filter_block.Goals as goal

pub block_of-b-requires : goal.block_of-b-requires
block_of-b-requires c = counts-low _ c.args.i.now.listed.shaped.shaped _ _ c.requires.inside.0 c.requires.inside.1

pub block_at-k-requires : goal.block_at-k-requires
block_at-k-requires c = counts-low _ c.args.i.now.listed.shaped.shaped _ _ c.requires.inside.0 c.requires.inside.1

pub params_for-q-requires : goal.params_for-q-requires
params_for-q-requires c = let i = c.args.i.now in record {
  block = rw c.block_at-k.ensures (has-params _ i.listed.listed _ (number-low _ i.listed.shaped.shaped _ _ c.requires.inside.0 c.requires.inside.1));
  damping = (i.in_force.least, i.in_force.most);
}

pub filter_block-requires : goal.filter_block-requires
unfolding plane_in_full
filter_block-requires c =
    let i = c.args.i.now in
    let h = i.listed.shaped.shaped in
    let r = c.requires in
    let k = block-sides _ h _ _ _ c.block_of-b.ensures in record {
      begins = (
        rw c.block_of-b.ensures (begins-in _ _ (block_in _ h _ i.sampled _ _ r.inside.0 r.inside.1)),
        record { all = sample-low _ h _ i.sampled },
        rw c.params_for-q.ensures (usable _ _ _ _ _ _ h.deep h.flat c.args.p.low.0 c.args.p.low.1 i.in_force (i.listed.listed.dirs-low _)),
        λ z. record { all = sample-byte _ h _ i.sampled (sym (depth-kept _ _ _ _ _ _ _ c.params_for-q.ensures) ∙ z) },
      );
      rows_fit = (top-in _ h _ _ r.inside.0 r.inside.1 _ i.sampled _ c.block_of-b.ensures _ r.begins, room _ h _ _ r.inside.0 r.inside.1 _ i.sampled _ c.block_of-b.ensures _ _ r.room, record { side = k.0 }, record { side = k.1 });
    }

pub returns : goal.returns
unfolding plane_in_full
returns c =
    let i = c.args.i.now in
    let r = c.requires in
    stored-is _ i.listed.shaped.shaped _ _ r.inside.0 r.inside.1 _ i.sampled _ c.block_of-b.ensures _ i.damping c.args.p.pair _ _ _ (rw c.block_at-k.ensures at c.params_for-q.ensures) c.filter_block.ensures
