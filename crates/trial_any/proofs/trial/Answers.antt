-- `trial_any::trial` meets its contract.
use native.Mathlib.Omega.{arith}
use Rattle.trial_any.specs.RowLaws.{small, room-long, taken-long, trial-is}
use Rattle.trial_any.proofs.trial.Goals as goal

pub filter_rows-requires : goal.filter_rows-requires
filter_rows-requires c = let q = c.requires in record { rows_fit = (omega arith, omega (arith, q.2), omega (arith, q.3), q.3, q.2, omega (arith, small c.args.w c.args.h q.2 q.3)); held = (q.4, q.5, q.6, q.7) }

pub overflow_mul-room : goal.overflow_mul-room
overflow_mul-room c = omega (arith, small c.args.w c.args.h c.requires.2 c.requires.3)

pub put_block-requires : goal.put_block-requires
put_block-requires c = let a = c.args in let q = c.requires in (q.0, q.1, omega (arith, small a.w a.h q.2 q.3, taken-long a.win.now a.o a.f a.g a.w a.h q.2 q.3 _ (room-long a.win.now a.o a.f a.g a.w a.h q.2 q.3 _ c.filter_rows.ensures)))

pub returns : goal.returns
returns c = trial-is _ _ _ _ _ _ c.requires.2 c.requires.3 _ _ _ _ c.filter_rows.ensures c.put_block.ensures
