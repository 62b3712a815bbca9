-- `trial_block::block::trial_window` meets its contract.
use native.Mathlib.Omega.{arith}
use Rattle.arith_sample.specs.BoundLaws.{marked-held}
use Rattle.trial_strengths.specs.StrengthLaws.{twelve-ready}
use Rattle.trial_marks.specs.TrialLaws.{quiet-twelve}
use Rattle.trial_block.specs.PackedLaws.{strong-twelve}
use Rattle.trial_block.specs.TableLaws.{window-table, any-table}
use Rattle.trial_block.proofs.block.trial_window.Goals as goal

pub by_strips-requires : goal.by_strips-requires
by_strips-requires c = let s = c.before.before.before.before.before.before.before in let a = s.args in (s.requires.0, c.before.before.packs.ensures c.before.if-packs.true, s.requires.3, a.q.taken.0, rw c.before.before.before.before.before.strengths-u.ensures (strong-twelve a.q.way a.q.dir a.q.damping a.q.depth a.q.taken.0 a.q.deep.1), rw c.before.before.before.before.before.strengths-u.ensures (quiet-twelve a.q.way a.q.dir a.q.damping a.q.depth (omega arith) a.q.deep.1))

pub returns-then-packs : goal.returns-then-packs
returns-then-packs c = let s = c.before.before.before.before.before.before.before.before.before.before in let a = s.args in λ p e. window-table a.out.now _ _ p a.b a.q.way a.q.dir a.q.damping a.q.depth _ c.before.before.before.before.before.before.before.before.strengths-u.ensures s.requires.1 s.requires.2 a.q.taken.0 (marked-held s.requires.3) s.requires.0 e c.before.before.by_strips.ensures

pub trials-requires : goal.trials-requires
trials-requires c = let s = c.before.before.before.before.before in let a = s.args in (s.requires.0, s.requires.1, s.requires.2, marked-held s.requires.3, rw c.before.before.before.strengths-u.ensures (twelve-ready a.q.way a.q.dir a.q.damping a.q.depth a.q.taken.0 a.q.deep.1))

pub returns : goal.returns
returns c = let s = c.before.before.before.before.before.before.before.before in let a = s.args in λ p e. any-table a.out.now _ _ p a.b a.q.way a.q.dir a.q.damping a.q.depth _ c.before.before.before.before.before.before.strengths-u.ensures s.requires.1 s.requires.2 a.q.taken.0 (marked-held s.requires.3) s.requires.0 e c.before.before.trials.ensures
