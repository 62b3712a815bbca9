-- `try_whole::weights_of` meets its contract.
use mathlib.Core.Path.{refl, sym}
use native.Mathlib.Omega.{arith}
use lib.ListN.{length-set}
use Rattle.arith_sample.specs.Upto.{upto-none, upto-more, upto_all}
use Rattle.try_whole.specs.Whole.{weights_of}
use Rattle.try_whole.proofs.weights_of.Goals as goal

pub weight-v-requires : goal.weight-v-requires
weight-v-requires c = let p = c.before.requires in (p.0, p.1, p.2, p.3 0 (omega arith))

pub loop-t-init : goal.loop-t-init
loop-t-init c = (sym (upto-none _), refl, omega arith, c.weight-v.ensures)

pub weight_after-v-requires : goal.weight_after-v-requires
weight_after-v-requires c = let p = c.before.before.before.before.before.requires in record { spreads_taken = (p.0, p.1, p.2, p.3 _ c.before.loop-t-test.true); last_weight = c.before.before.loop-t.invariant.3 }

pub loop-t-preserved : goal.loop-t-preserved
loop-t-preserved c = let l = c.before.before.before.before.loop-t in (upto-more _ _ _ _ l.invariant.0 (omega arith) c.before.weight_after-v.ensures, simp length-set l.invariant.1, omega arith, c.before.weight_after-v.ensures)

pub returns : goal.returns
returns c = unfold weights_of in let l = c.before.loop-t in upto_all _ _ 12 _ l.invariant.0 l.invariant.1 (omega arith)
