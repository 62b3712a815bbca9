-- `check_lists::samples_below` meets its contract.
use Rattle.std.proofs.Common.{arith}
use Rattle.check_lists.specs.ListLaws.{four-none, four-more, four-all, rest-say}
use Rattle.check_lists.proofs.samples_below.Goals as goal

pub loop-k-init : goal.loop-k-init
loop-k-init c = (four-none c.args.depth c.args.list.now _, omega arith)

pub loop-k-preserved : goal.loop-k-preserved
loop-k-preserved c = (four-more c.args.depth c.args.list.now _ c.loop-k.bits c.loop-k.k c.loop-k.invariant.0, omega arith)

pub returns : goal.returns
returns c = rest-say c.args.depth c.args.list.now c.loop-k.bits _ _ (omega arith) (four-all c.args.depth c.args.list.now _ c.loop-k.bits c.loop-k.k c.loop-k.invariant.0 (omega arith)) c.bits_of-bits.ensures
