-- `trial_sums::limits::limits_of` meets its contract.
use mathlib.Core.Path.{refl, sym, ◌∙◌}
use native.Mathlib.Omega.{arith}
use lib.ListN.{length-set}
use Rattle.arith_sample.specs.Upto.{upto-none, upto-more, upto_all}
use Rattle.plane_taps.specs.ReachLaws.{reached-all}
use Rattle.filter_rows.specs.PairsLaws.{held-pairs}
use Rattle.trial_sums.specs.RawLaws.{low_held, high_held, sixteen-at, sixteen-held}
use Rattle.trial_sums.proofs.limits.limits_of.Goals as goal

pub loop-j-init : goal.loop-j-init
loop-j-init c = (sym (upto-none _), sym (upto-none _), refl, refl, omega arith)

pub load_pairs-e-requires : goal.load_pairs-e-requires
load_pairs-e-requires c = let s = c.before.before.before.before in reached-all s.requires.0 c.before.before.loop-j.j (omega arith)

pub lowest-requires : goal.lowest-requires
lowest-requires c = (rw c.load_pairs-e.ensures (held-pairs _ _ _ c.requires.1), sixteen-held _ _ _ (omega arith) c.requires.1)

pub highest-requires : goal.highest-requires
highest-requires c = (rw c.load_pairs-e.ensures (held-pairs _ _ _ c.requires.1), sixteen-held _ _ _ (omega arith) c.requires.1)

pub loop-j-preserved : goal.loop-j-preserved
loop-j-preserved c = let i = c.loop-j.invariant in let e = sixteen-at c.args.t.now c.args.at c.loop-j.j (omega arith) in (upto-more _ _ _ _ i.0 (omega (arith, i.2)) (c.lowest.ensures.0 ∙ rw (c.load_pairs-e.ensures, e)), upto-more _ _ _ _ i.1 (omega (arith, i.3)) (c.highest.ensures.0 ∙ rw (c.load_pairs-e.ensures, e)), simp length-set i.2, simp length-set i.3, omega arith)

pub returns : goal.returns
returns c = let p = c.before in record { lo-is = upto_all _ _ 16 _ p.loop-j.invariant.0 p.loop-j.invariant.2 (omega arith); hi-is = upto_all _ _ 16 _ p.loop-j.invariant.1 p.loop-j.invariant.3 (omega arith) }

pub invariant_of-result : goal.invariant_of-result
invariant_of-result c = let i = c.loop-j.invariant in record { held = (low_held _ _ _ c.requires.1 _ (upto_all _ _ 16 _ i.0 i.2 (omega arith)), high_held _ _ _ c.requires.1 _ (upto_all _ _ 16 _ i.1 i.3 (omega arith))) }
