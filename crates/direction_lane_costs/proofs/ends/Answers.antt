-- `direction_lane_costs::ends` meets its contract.
use mathlib.Core.Path.{refl, sym, ◌∙◌}
use Prim.Native.Nat.{◌+◌, ◌-◌, ◌*◌, ◌<◌}
use native.Mathlib.Omega.{arith}
use lib.ListN.{length-set}
use Rattle.arith_sample.specs.Upto.{upto-none, upto-more, upto-at, upto_all}
use Rattle.arith_sample.proofs.Sums16.{back}
use Rattle.direction_lane_costs.specs.Costs.{ends_of}
use Rattle.direction_lane_costs.specs.CostsLaws.{end-even, end-odd}
use Rattle.direction_lane_costs.proofs.ends.Goals as goal

pub loop-n-init : goal.loop-n-init
loop-n-init c = (sym (upto-none _), refl, omega arith)

pub loop-l-init : goal.loop-l-init
loop-l-init c = (upto-at _ _ _ _ (omega arith) c.loop-n.invariant.0, c.loop-n.invariant.1, omega arith)

pub loop-l-preserved : goal.loop-l-preserved
loop-l-preserved c = let n : c.loop-n.n < 8 = omega arith in
    let l : c.loop-l.l < 8 = omega arith in
    (upto-at _ _ _ _ (omega arith) (upto-more _ _ _ _ (upto-more _ _ _ _ c.loop-l.invariant.0 (omega (arith, c.loop-l.invariant.1)) (back _ (omega (arith, c.requires.all (c.loop-n.n * 8 + c.loop-l.l))) ∙ sym (end-even _ _ _ _ n l refl))) (simp length-set (omega (arith, c.loop-l.invariant.1))) (back _ (omega (arith, c.requires.all ((14 - c.loop-n.n) * 8 + c.loop-l.l))) ∙ sym (end-odd _ _ _ _ n l refl))), simp length-set c.loop-l.invariant.1, omega arith)

pub loop-n-preserved : goal.loop-n-preserved
loop-n-preserved c = (upto-at _ _ _ _ (omega arith) c.loop-l.invariant.0, c.loop-l.invariant.1, omega arith)

pub returns : goal.returns
returns c = unfold ends_of in upto_all _ _ 128 _ c.loop-n.invariant.0 c.loop-n.invariant.1 (omega arith)
