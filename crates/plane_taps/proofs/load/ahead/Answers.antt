-- `plane_taps::load::ahead` meets its contract.
use Rattle.std.proofs.Common.{◌∙◌}
use Rattle.filter_rows.specs.Place.{on_from}
use Rattle.plane_taps.specs.ReachLaws.{on-run}
use Rattle.plane_taps.specs.RunLaws.{on-is}
use Rattle.plane_taps.proofs.load.ahead.Goals as goal

pub gather-requires : goal.gather-requires
unfolding on_from
gather-requires g c = (c.requires.0, on-run c.requires.1, c.requires.2)

pub returns : goal.returns
unfolding on_from
returns g c = c.gather.ensures ∙ on-is c.requires.0 c.args.src.now c.args.w c.requires.1
