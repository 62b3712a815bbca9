-- `still_pgm::decode::fill` meets its contract.
use Rattle.std.proofs.Common.{sym, arith}
use Rattle.still_pgm.specs.SizesLaws.{taken}
use Rattle.still_pgm.specs.PlanesLaws.{stored_none, stored_more, padded_is, place_room}
use Rattle.still_pgm.proofs.decode.fill.Goals as goal

pub loop-k-init : goal.loop-k-init
loop-k-init c = sym (stored_none _ _)

pub overflow_sub-h : goal.overflow_sub-h
overflow_sub-h c = omega (arith, (taken _ _ c.requires.sides_taken).height-low)

pub overflow_sub-h-in-loop-k : goal.overflow_sub-h-in-loop-k
overflow_sub-h-in-loop-k c = omega (arith, (taken _ _ c.requires.sides_taken).width_low)

pub overflow_mul-row : goal.overflow_mul-row
overflow_mul-row c =
    let t = taken _ _ c.requires.sides_taken in
    omega (arith, (place_room c.args.h.width c.args.h.height c.min-row.result c.min-column.result t.width-high (omega (arith, c.min-row.ensures, t.height-low)) t.height-high (omega (arith, c.min-column.ensures, t.width_low))).0)

pub overflow_add-row : goal.overflow_add-row
overflow_add-row c =
    let t = taken _ _ c.requires.sides_taken in
    omega (arith, (place_room c.args.h.width c.args.h.height c.min-row.result c.min-column.result t.width-high (omega (arith, c.min-row.ensures, t.height-low)) t.height-high (omega (arith, c.min-column.ensures, t.width_low))).1)

pub sample_at-requires : goal.sample_at-requires
sample_at-requires c =
    let t = taken _ _ c.requires.sides_taken in
    omega (arith, (place_room c.args.h.width c.args.h.height c.min-row.result c.min-column.result t.width-high (omega (arith, c.min-row.ensures, t.height-low)) t.height-high (omega (arith, c.min-column.ensures, t.width_low))).1)

pub loop-k-preserved : goal.loop-k-preserved
loop-k-preserved c = stored_more _ _ _ _ _ c.loop-k.invariant (padded_is _ _ _ _ _ _ _ _ c.step_of-step.ensures c.min-row.ensures c.min-column.ensures c.sample_at.ensures)
