-- `trial_block::block::cdef_block_candidates` meets its contract.
use Rattle.cdef_spec.specs.Lent.{plane_in_full}
use Rattle.filter_window.specs.FilledLaws.{begins-in}
use Rattle.trial_block.proofs.block.cdef_block_candidates.Goals as goal

pub window-win-requires : goal.window-win-requires
window-win-requires c = begins-in _ _ c.requires.0

pub trial_window-requires : goal.trial_window-requires
unfolding plane_in_full
trial_window-requires c = let i = c.requires.0 in (c.requires.2, i.bw, i.bh, rw c.window-win.ensures c.requires.1)

pub returns : goal.returns
unfolding plane_in_full
returns c = c.trial_window.ensures (plane_in_full c.args.src.now) c.window-win.ensures
