-- `trial_sixteen::first_four` meets its contract.
use mathlib.Core.Path.{◌∙◌}
use native.Mathlib.Omega.{arith}
use Rattle.trial_sixteen.specs.SixteenLaws.{long-row, wider}
use Rattle.trial_sixteen.proofs.first_four.Goals as goal

pub put_free-requires : goal.put_free-requires
put_free-requires c = ((long-row _ _ _ _ _ c.put_run.ensures c.requires.0), omega arith, c.requires.1, c.requires.2, wider c.requires.3.p1 (omega arith))

pub put_free-requires-2 : goal.put_free-requires-2
put_free-requires-2 c = ((long-row _ _ _ _ _ c.put_free.ensures (long-row _ _ _ _ _ c.put_run.ensures c.requires.0)), omega arith, c.requires.1, c.requires.2, wider c.requires.3.p2 (omega arith))

pub put_free-requires-3 : goal.put_free-requires-3
put_free-requires-3 c = ((long-row _ _ _ _ _ c.put_free-2.ensures (long-row _ _ _ _ _ c.put_free.ensures (long-row _ _ _ _ _ c.put_run.ensures c.requires.0))), omega arith, c.requires.1, c.requires.2, wider c.requires.3.p3 (omega arith))

pub returns : goal.returns
returns c = c.put_free-3.ensures ∙ rw (c.put_free-2.ensures, c.put_free.ensures, c.put_run.ensures)
