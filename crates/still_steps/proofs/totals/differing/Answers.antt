-- `still_steps::totals::differing` meets its contract.
use Rattle.std.proofs.Common.{◌+◌, ◌*◌, get_or, sym, arith}
use lib.IntN.{pos}
use mir.Syntax.{w64}
use mir.ValLaws.{to_z-of_z}
use Rattle.still_steps.specs.TotalLaws.{differ_none, differ_more, differ_low, one_at_most, one_where}
use Rattle.still_steps.proofs.totals.differing.Goals as goal

pub loop-u-init : goal.loop-u-init
loop-u-init c = sym (differ_none _ _ _)

pub overflow_add-count : goal.overflow_add-count
overflow_add-count c = omega (arith, c.loop-u.invariant, differ_low c.args.tried.now c.args.measured.now c.args.trial c.loop-u.u, one_at_most _ _ (one_where _ _ _ c.from-count.ensures c.differs.ensures), c.loop-u-test.true, c.requires.few_units)

pub loop-u-preserved : goal.loop-u-preserved
loop-u-preserved c =
    let x = to_z-of_z w64 (get_or c.args.tried.now (12 * c.loop-u.u + c.args.trial) (pos 0)) (record { sfits = c.differs-arg-1.given }) in
    let y = to_z-of_z w64 (get_or c.args.measured.now c.loop-u.u (pos 0)) (record { sfits = c.differs-arg-in-loop-u-1.given }) in
    differ_more _ _ _ _ _ _ c.loop-u.invariant (one_where _ _ _ c.from-count.ensures (rw (x, y) at c.differs.ensures))
