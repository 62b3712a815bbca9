-- `trial_block::runs` meets its contract.
use mathlib.Core.Path.{◌≡◌, sym, ap, ◌∙◌}
use Prim.Native.Nat.{◌+◌, ◌*◌, ◌≤◌}
use native.Mathlib.Omega.{arith}
use lib.ListN.{length}
use Rattle.cdef_spec.proofs.PlaneLaws.{length-put-block}
use Rattle.trial_runs.specs.JoinLaws.{run_join}
use Rattle.trial_block.specs.PackedLaws.{block_none}
use Rattle.trial_block.proofs.runs.Goals as goal

pub loop-i-init : goal.loop-i-init
loop-i-init c = let s = c.before.before in (sym (block_none _ _ 0 0 12), s.requires.room.0, omega arith)

pub sixteen-requires : goal.sixteen-requires
sixteen-requires c = let q = c.requires in let a = q.around c.loop-i.i (omega arith) in record { run_fits = (c.loop-i.invariant.1, omega (arith, q.room.1)); samples = (q.samples.0, q.samples.1, a.0, a.1) }

pub loop-i-preserved : goal.loop-i-preserved
loop-i-preserved c = let s = c.before.before.before.before.before.before.before.before in let p = c.before.before.before.before.before in let b : c.loop-i.i + 1 ≤ c.args.n = omega arith in (c.before.before.sixteen.ensures ∙ run_join _ _ _ p.loop-i.i 12 (omega (arith, b, s.requires.room.1)) p.loop-i.invariant.0, ap length c.before.before.sixteen.ensures ∙ length-put-block 64 _ _ 0 (p.loop-i.i * 16) 16 12 ∙ p.loop-i.invariant.1, b)

pub shape_of-out : goal.shape_of-out
shape_of-out c = c.before.loop-i.invariant.1 ∙ sym c.before.before.before.before.requires.room.0

pub returns : goal.returns
returns c = let full : c.before.loop-i.i ≡ c.before.before.before.before.args.n = omega arith in c.before.loop-i.invariant.0 ∙ rw full
