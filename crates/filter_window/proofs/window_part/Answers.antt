-- `filter_window::window_part` meets its contract.
use Rattle.std.proofs.Common.{arith, refl, ◌≡◌}
use Rattle.cdef_spec.specs.Lent.{plane_in_full}
use Rattle.filter_window.specs.FilledLaws.{edge-first, edge-last, edge-row, in-plane}
use Rattle.filter_window.proofs.window_part.Goals as goal

pub loop-i-init : goal.loop-i-init
unfolding plane_in_full
loop-i-init c = let p = c.args.src.now in edge-first p.samples.now p.width p.height _ (in-plane _ _ c.requires) _ _ c.looked_at-rows.ensures c.looked_at-cols.ensures

pub loop-i-preserved : goal.loop-i-preserved
unfolding plane_in_full
loop-i-preserved c = let p = c.args.src.now in edge-row p.samples.now p.width p.height _ (in-plane _ _ c.requires) _ _ c.looked_at-rows.ensures c.looked_at-cols.ensures c.loop-i.i c.loop-i.auto.i (omega arith) _ _ _ _ _ _ c.loop-i.invariant refl refl refl (omega arith) c.copy_from_slice.ensures.after

pub returns : goal.returns
unfolding plane_in_full
returns c =
    let p = c.args.src.now in
    let r = c.looked_at-rows.ensures in
    let q = c.requires in
    let full : c.loop-i.i ≡ c.looked_at-rows.result.hi = omega (arith, c.loop-i-test.false, c.loop-i.auto.i-end, r.from, r.to, q.y-in) in
    edge-last p.samples.now p.width p.height _ (in-plane _ _ q) _ _ r c.looked_at-cols.ensures _ (rw full at c.loop-i.invariant)
