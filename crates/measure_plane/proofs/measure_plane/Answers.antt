-- `measure_plane::measure_plane` meets its contract.
use Rattle.std.proofs.Common.{◌≡◌, ap, ◌∙◌, ◌/◌, length, pos, rules, arith}
use Rattle.std.specs.Prelude.{replicate}
use Rattle.cdef_spec.specs.Lent.{picture_in}
use Rattle.cdef_spec.specs.LoopForm.{signed}
use Rattle.measure_plane.specs.AddLaws.{rows_step, row_small, totals-none, totals-all}
use Rattle.measure_plane.proofs.measure_plane.Goals as goal

pub constants_of-c-requires : goal.constants_of-c-requires
unfolding picture_in
constants_of-c-requires c = let h = c.args.i.now.filter.listed.shaped.shaped in (h.deep, h.flat)

pub loop-by-init : goal.loop-by-init
loop-by-init c =
    let none : c.fill.new.self ≡ replicate (length c.args.totals.now) (pos 0) = search rules in
    none ∙ totals-none c.args.i.now c.args.p.pair _ c.requires.lengths.0

pub measure_row-requires : goal.measure_row-requires
unfolding picture_in
measure_row-requires c = record {
  inside = c.loop-by-test.true;
  constants = c.constants_of-c.ensures;
  lengths = (c.loop-by.auto.scratch ∙ c.requires.lengths.1, c.loop-by.auto.totals ∙ c.fill.ensures.len ∙ c.requires.lengths.0);
  small = (_, c.loop-by.invariant, row_small c.args.i.now c.args.p.pair _ c.loop-by-test.true);
}

pub loop-by-preserved : goal.loop-by-preserved
loop-by-preserved c = c.measure_row.ensures _ c.loop-by.invariant ∙ ap signed (rows_step c.args.i.now c.args.p.pair _)

pub returns : goal.returns
unfolding picture_in
returns c =
    let full : c.loop-by.by ≡ c.args.i.now.filter.listed.shaped.picture.height / 8 = omega arith in
    let zero : c.fill-2.new.self ≡ replicate (length c.loop-by.scratch) 0 = search rules in
    record {
      totals_after = totals-all c.args.i.now c.args.p.pair _ (c.loop-by.invariant ∙ rw full);
      scratch_after = zero ∙ rw (c.loop-by.auto.scratch, c.requires.lengths.1);
    }
