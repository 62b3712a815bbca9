-- `frame_part::part_of` meets its contract.
use Rattle.std.proofs.Common.{refl, arith}
use Rattle.cdef_spec.specs.Lent.{picture_in, plane_in_full}
use Rattle.frame_shape.specs.ShapeLaws.{counts-low}
use Rattle.frame_shape.specs.SampledLaws.{seen-low}
use Rattle.distance_visible.specs.CutLaws.{weights-of}
use Rattle.frame_part.specs.PartLaws.{part-sides, part_held, begin-low}
use Rattle.frame_part.proofs.part_of.Goals as goal

pub visible_part-b-requires : goal.visible_part-b-requires
visible_part-b-requires c =
    let i = c.args.i.now in
    let h = i.filter.listed.shaped.shaped in
    record { seen = seen-low _ h _ i.seen; few = counts-low _ h _ _ c.requires.inside.0 c.requires.inside.1; begun = c.requires.begun }

pub overflow_mul-result : goal.overflow_mul-result
unfolding plane_in_full
overflow_mul-result c = let i = c.args.i.now in omega (arith, begin-low _ _ _ _ i.filter.listed.shaped.shaped c.requires.inside.0 c.requires.inside.1 _ _ c.visible_part-b.ensures i.original_sampled.wide)

pub overflow_add-result : goal.overflow_add-result
unfolding plane_in_full
overflow_add-result c = let i = c.args.i.now in omega (arith, begin-low _ _ _ _ i.filter.listed.shaped.shaped c.requires.inside.0 c.requires.inside.1 _ _ c.visible_part-b.ensures i.original_sampled.wide)

pub invariant_of-result : goal.invariant_of-result
unfolding plane_in_full picture_in
invariant_of-result c =
    let i = c.args.i.now in
    let h = i.filter.listed.shaped.shaped in
    let r = c.requires in
    let e = c.visible_part-b.ensures in
    let k = part-sides _ i.visible c.args.by c.args.bx h r.inside.0 r.inside.1 in
    record {
      sides = (rw e k.0, rw e k.1);
      within = part_held _ _ _ _ h r.inside.0 r.inside.1 _ i.original_sampled _ _ e i.original_sampled.wide;
      weighs = rw c.then_some.ensures (weights-of c.is_luma.result c.args.c _ (record { deep = h.deep; flat = h.flat; is = r.constants }));
    }

pub returns-clause-start : goal.returns-clause-start
unfolding plane_in_full
returns-clause-start c = rw (c.visible_part-b.ensures, c.args.i.now.original_sampled.wide) refl

pub returns-clause-pitch : goal.returns-clause-pitch
unfolding plane_in_full
returns-clause-pitch c = c.args.i.now.original_sampled.wide

pub returns-clause-depth : goal.returns-clause-depth
unfolding picture_in
returns-clause-depth c = refl
