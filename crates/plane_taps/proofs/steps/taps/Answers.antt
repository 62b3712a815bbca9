-- `plane_taps::steps::taps` meets its contract.
use Rattle.plane_taps.specs.Steps.{taps_by}
use Rattle.plane_taps.proofs.steps.taps.Goals as goal

pub returns : goal.returns
unfolding taps_by
returns c = rw (c.before.before.before.before.before.near.ensures, c.before.before.before.before.far.ensures, c.before.before.before.near-2.ensures, c.before.before.far-2.ensures, c.before.near-3.ensures, c.far-3.ensures)
