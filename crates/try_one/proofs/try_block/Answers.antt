-- `try_one::try_block` meets its contract.
use Rattle.std.proofs.Common.{ℕ, ◌≡◌, ◌*◌, ◌≤◌, ◌<◌, sym, ap, ◌∙◌, length, arith}
use Rattle.cdef_spec.specs.Lent.{picture_in, plane_in_full}
use Rattle.cdef_spec.specs.LoopForm.{signed, add_turns}
use Rattle.arith_totals.specs.Turns.{plain_of}
use Rattle.try_totals.specs.Totals.{trial_distances}
use Rattle.cdef_spec.specs.Picture.{block_rows, block_cols, units}
use Rattle.frame_shape.specs.declared.inputs.CompareInput.{CompareInput}
use Rattle.frame_shape.specs.Checked.{compare_in}
use Rattle.frame_shape.specs.ShapeLaws.{counts-low, number-low, corner-is}
use Rattle.frame_shape.specs.CountedLaws.{begins-inside}
use Rattle.frame_shape.specs.SampledLaws.{seen-low}
use Rattle.try_one.specs.TryLaws.{blocks-pass, blocks-long}
use Rattle.try_one.specs.DistanceLaws.{part_step, trials-held}
use Rattle.try_one.specs.InputLaws.{low, base-in, added}
use Rattle.try_one.proofs.try_block.Goals as goal

-- what the geometry asks of a block
few : (i : CompareInput) (by bx : ℕ) → by < block_rows (compare_in i) → bx < block_cols (compare_in i) → (by ≤ 512) × (bx ≤ 512)
few i by bx hy hx = counts-low _ i.filter.listed.shaped.shaped by bx hy hx

pub counted-requires : goal.counted-requires
unfolding picture_in
counted-requires c =
    let i = c.args.i.now in
    let h = i.filter.listed.shaped.shaped in
    let n = few i _ _ c.requires.inside.0 c.requires.inside.1 in
    record { seen = seen-low _ h _ i.seen; inside = (n.0, n.1, omega (arith, number-low _ h _ _ c.requires.inside.0 c.requires.inside.1, i.filter.listed.listed.skip-long)) }

pub returns-then-not-counted : goal.returns-then-not-counted
returns-then-not-counted c = c.requires.totals_so_far ∙ ap signed (blocks-pass _ _ _ _ _ _ _ (sym c.counted.ensures ∙ c.if-not-counted.true))

pub block_of-b-requires : goal.block_of-b-requires
block_of-b-requires c = few c.args.i.now _ _ c.requires.inside.0 c.requires.inside.1

pub unit_at-base-requires : goal.unit_at-base-requires
unit_at-base-requires c = few c.args.i.now _ _ c.requires.inside.0 c.requires.inside.1

pub overflow_mul-base : goal.overflow_mul-base
overflow_mul-base c = let b = base-in c.args.i.now _ _ c.requires.inside.0 c.requires.inside.1 in omega (arith, b.0, b.1, c.unit_at-base.ensures)

pub part_of-part-requires : goal.part_of-part-requires
part_of-part-requires c = record {
  inside = c.requires.inside;
  begun = begins-inside _ _ _ _ (sym c.counted.ensures ∙ c.if-not-counted.false);
  constants = c.requires.constants;
}

pub add_trials-requires : goal.add_trials-requires
unfolding plane_in_full
add_trials-requires c =
    let i = c.args.i.now in
    let h = i.filter.listed.shaped.shaped in
    let r = c.requires in
    let e = c.part_of-part.ensures in
    let s = (corner-is _ _ _ _ c.block_of-b.ensures).2 in
    let u = base-in i _ _ r.inside.0 r.inside.1 in
    let long : length c.args.totals.now ≡ 12 * units (compare_in i) = ap length r.totals_so_far ∙ blocks-long _ _ _ _ _ _ _ in
    record {
      room = (omega (arith, u.0, long, c.unit_at-base.ensures), rw r.totals_so_far (low i _ _ r.inside.0 (omega (arith, r.inside.1))));
      rows_inside = part_step _ h _ _ r.inside.0 r.inside.1 i.visible _ _ e.sides.1 s;
      trials = λ t b. trials-held _ h _ _ r.inside.0 r.inside.1 _ _ i.filter.sampled _ t b i.visible _ _ _ _ _ e.sides.0 e.sides.1 e.depth s c.make_trials.ensures;
    }

pub returns : goal.returns
unfolding plane_in_full
returns c =
    let i = c.args.i.now in
    let r = c.requires in
    let p = c.part_of-part.result in
    let m = c.part_of-part.ensures in
    let e : c.add_trials.new.totals ≡ signed (add_turns (plain_of c.args.totals.now) (12 * c.unit_at-base.result) (trial_distances p.weights p.rows p.cols p.samples.now p.start p.pitch c.make_trials.new.blocks c.block_of-b.result.width) 12) = c.add_trials.ensures in
    e ∙ added i _ _ r.inside.0 r.inside.1 (sym c.counted.ensures ∙ c.if-not-counted.false) _ r.totals_so_far _ _ _ _ _ _ _ _ _ _ (ap (λ (n : ℕ). 12 * n) c.unit_at-base.ensures) m.start m.pitch m.sides.0 m.sides.1 (corner-is _ _ _ _ c.block_of-b.ensures).2 m.samples m.weights c.make_trials.ensures
