-- `trial_block::by_strips` meets its contract.
use Rattle.std.proofs.Common.{inl, inr, arith}
use Rattle.std.specs.Prelude.{◌≡◌, ◌⊎◌, ◌+◌, ◌*◌, ◌%◌, Some, None}
use Rattle.arith_sample.specs.BoundLaws.{marked-held}
use Rattle.arith_numbers.specs.PackedLaws.{width_low}
use Rattle.plane_taps.specs.Steps.{taps_by}
use Rattle.trial_block.specs.PackedLaws.{run-around, turned-around, strips-held, runs-trial}
use Rattle.trial_block.proofs.by_strips.Goals as goal
use Rattle.trial_block.proofs.by_strips.Goals.{then-dir-eq0, else-dir-eq0}

pub runs-requires-clause-samples : goal.runs-requires-clause-samples
runs-requires-clause-samples c = let q = c.requires in (strips-held c.strips-l.ensures (width_low _ _ q.1).0 (omega arith) (marked-held q.2), q.4)

pub runs-requires-clause-around : goal.runs-requires-clause-around
runs-requires-clause-around c = let a = c.args in let q = c.requires in let z : ((c.if-dir-eq0.zero ≡ None) × (a.dir % 4 ≡ 0)) ⊎ (c.if-dir-eq0.zero ≡ Some (taps_by a.w ((a.h + 4) * a.w) 0)) = elim c.if-dir-eq0.branch [ then-dir-eq0 w ↦ inl (w.zero-is, w.if-dir-eq0.true) | else-dir-eq0 w ↦ inr (rw w.taps.ensures at w.zero-is) ] in λ i h. rw c.strips-l.ensures.long (rw c.taps-own.ensures (run-around a.w a.h q.1 a.dir i q.3 h), turned-around a.w a.h q.1 a.dir _ z i h)

pub returns : goal.returns
returns c = let a = c.args in let q = c.requires in let z : ((c.if-dir-eq0.zero ≡ None) × (a.dir % 4 ≡ 0)) ⊎ (c.if-dir-eq0.zero ≡ Some (taps_by a.w ((a.h + 4) * a.w) 0)) = elim c.if-dir-eq0.branch [ then-dir-eq0 w ↦ inl (w.zero-is, w.if-dir-eq0.true) | else-dir-eq0 w ↦ inr (rw w.taps.ensures at w.zero-is) ] in runs-trial a.out.now _ a.win.now _ a.w a.h q.1 c.strips-l.ensures q.2 a.u a.dir q.3 q.5 _ _ c.taps-own.ensures z c.runs.ensures
