-- `plane_taps::load::behind` meets its contract.
use Rattle.std.proofs.Common.{◌∙◌}
use Rattle.filter_rows.specs.Place.{back_from}
use Rattle.plane_taps.specs.ReachLaws.{back-run}
use Rattle.plane_taps.specs.RunLaws.{back-is}
use Rattle.plane_taps.proofs.load.behind.Goals as goal

pub gather-requires : goal.gather-requires
unfolding back_from
gather-requires g c = (c.requires.0, back-run c.requires.1, c.requires.2)

pub returns : goal.returns
unfolding back_from
returns g c = c.gather.ensures ∙ back-is c.requires.0 c.args.src.now c.args.w c.requires.1
