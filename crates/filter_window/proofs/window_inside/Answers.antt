-- `filter_window::window_inside` meets its contract.
use Rattle.std.proofs.Common.{arith, refl, ◌+◌, ◌-◌, ◌*◌}
use borrow.Rule.Slice.PartMut.{put_mid}
use Rattle.cdef_spec.specs.Lent.{plane_in_full}
use Rattle.filter_window.specs.Spans.{Filled}
use Rattle.filter_window.specs.FilledLaws.{filled_none, filled_at, row_run, filled_row, filled-end, inside-wide, inside-four, in-plane}
use Rattle.filter_window.proofs.window_inside.Goals as goal
use Rattle.filter_window.proofs.window_inside.Goals.{Joined-b-eq8, then-b-eq8, else-b-eq8}

pub loop-i-init : goal.loop-i-init
loop-i-init c = filled_none _ _

-- the first eight entries of a row
eight : (c : Joined-b-eq8) → Filled (plane_in_full c.args.src.now) c.args.b (c.loop-i.i * 12 + 8) (put_mid (c.loop-i.i * 12) (c.loop-i.i * 12 + 8 - c.loop-i.i * 12) c.loop-i.out c.copy_from_slice.new.self)
unfolding plane_in_full
eight c =
    let p = c.args.src.now in
    row_run p.samples.now p.width p.height _ (in-plane _ _ c.requires.0) c.requires.1 c.loop-i.i 0 8 _ _ _ _ _ _ (omega arith) (omega arith) (omega (arith, inside-wide _ _ _ c.requires.1)) (omega arith) refl (omega arith) (omega arith) c.copy_from_slice.ensures.after (filled_at _ _ _ _ _ (omega arith) c.loop-i.invariant)

pub loop-i-preserved : goal.loop-i-preserved
unfolding plane_in_full
loop-i-preserved c =
    let p = c.args.src.now in
    let r = c.requires.1 in
    elim c.if-b-eq8.branch [ then-b-eq8 w ↦ rw w.out-is (filled_at _ _ _ _ _ (omega arith) (row_run p.samples.now p.width p.height _ (in-plane _ _ c.requires.0) r c.loop-i.i 8 12 _ _ _ _ _ _ (omega arith) (omega arith) (omega (arith, w.if-b-eq8.true)) refl (omega arith) (omega arith) (omega arith) w.copy_from_slice-then-b-eq8.ensures.after (eight c))) | else-b-eq8 w ↦ rw w.out-is (filled_at _ _ _ _ _ (omega arith) (filled_row _ _ (inside-four _ _ _ r w.if-b-eq8.false) c.loop-i.i _ (omega arith) (eight c))) ]

pub returns : goal.returns
returns c = filled-end _ _ _ c.requires.0.bh (filled_at _ _ _ _ _ (omega arith) c.loop-i.invariant)
