-- `try_totals::add_trials` meets its contract.
use Rattle.std.proofs.Common.{ℕ, ◌^◌, ◌<◌, List, ap, ◌∙◌}
use Rattle.cdef_spec.specs.LoopForm.{signed}
use Rattle.distance_visible.specs.declared.Part.{Part}
use Rattle.distance_visible.specs.CutLaws.{cut-within}
use Rattle.try_totals.specs.Totals.{trial_distances, part_distances, TrialsTaken}
use Rattle.try_totals.specs.SameLaws.{listed-turns, listed-low}
use Rattle.try_totals.proofs.add_trials.Goals as goal

-- each distance is below 2 ^ 53
each : (p : Part) (blocks : List ℕ) (step t : ℕ) → TrialsTaken p blocks step → t < 12 → part_distances p blocks step t < 2 ^ 53
unfolding trial_distances
each p blocks step t w h = cut-within _ _ _ _ _ _ _ _ _ _ p.sides.0 p.sides.1 p.weighs p.within (w t h)

pub add_twelve-requires : goal.add_twelve-requires
add_twelve-requires c = (c.requires.room.0, c.requires.room.1, listed-low _ _ _ c.distances-d.ensures (λ t h. each c.args.part.now c.args.blocks.now c.args.step t c.requires.trials h))

pub returns : goal.returns
returns c = c.add_twelve.ensures ∙ ap signed (listed-turns _ _ _ _ c.distances-d.ensures)
