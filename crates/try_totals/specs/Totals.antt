-- The distances that trying adds up. Definitions only.
use Rattle.std.specs.Prelude.{List, ℕ, ◌*◌, ◌^◌, ◌<◌, Option}
use Rattle.cdef_spec.specs.declared.DistanceConstants.{DistanceConstants}
use Rattle.distance_sums.specs.Blocks.{at, Within}
use Rattle.distance_visible.specs.declared.Part.{Part}
use Rattle.distance_visible.specs.Cut.{cut_distance}

-- the distance between rows by cols samples of an original and of trial block t, which lies at t * 64 and has the row pitch `step`
unfoldable pub trial_distances : Option DistanceConstants → ℕ → ℕ → List ℕ → ℕ → ℕ → List ℕ → ℕ → ℕ → ℕ
trial_distances w rows cols original start pitch blocks step t = cut_distance w rows cols (at original start pitch) (at blocks (t * 64) step)

-- of a part of the original
abbrev pub part_distances : Part → List ℕ → ℕ → ℕ → ℕ
part_distances p blocks step t = trial_distances p.weights p.rows p.cols p.samples.now p.start p.pitch blocks step t

-- the trial blocks have the part's rows and columns, with samples of its depth
abbrev pub TrialsTaken : Part → List ℕ → ℕ → Type 0
TrialsTaken p blocks step = (t : ℕ) → t < 12 → Within blocks (t * 64) step p.rows p.cols (2 ^ p.depth)
