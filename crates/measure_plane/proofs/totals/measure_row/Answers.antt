-- `measure_plane::totals::measure_row` meets its contract.
use Rattle.std.proofs.Common.{◌≡◌, sym, ap, ◌∙◌, ◌/◌, arith}
use Rattle.cdef_spec.specs.Lent.{picture_in}
use Rattle.cdef_spec.specs.LoopForm.{signed}
use Rattle.arith_totals.specs.FoldLaws.{measure-row-none}
use Rattle.measure_plane.specs.AddLaws.{row_step}
use Rattle.measure_plane.proofs.totals.measure_row.Goals as goal

pub loop-bx-init : goal.loop-bx-init
loop-bx-init c = λ t e. e ∙ ap signed (sym (measure-row-none _ _ _ _ t))

pub measure_one-requires : goal.measure_one-requires
unfolding picture_in
measure_one-requires c = record {
  inside = (c.requires.inside, c.loop-bx-test.true);
  constants = c.requires.constants;
  lengths = (c.loop-bx.auto.scratch ∙ c.requires.lengths.0, c.loop-bx.auto.totals ∙ c.requires.lengths.1);
  small = (_, c.loop-bx.invariant c.requires.small.0 c.requires.small.1, c.requires.small.2.turn _ (omega (arith, c.loop-bx-test.true)));
}

pub loop-bx-preserved : goal.loop-bx-preserved
loop-bx-preserved c = λ t e. c.measure_one.ensures _ (c.loop-bx.invariant t e) ∙ ap signed (sym (row_step _ _ _ _ t _))

pub returns : goal.returns
unfolding picture_in
returns c = let full : c.loop-bx.bx ≡ c.args.i.now.filter.listed.shaped.picture.width / 8 = omega arith in λ t e. c.loop-bx.invariant t e ∙ rw full
