-- The sizes of the lists of a picture, and totals compared. Definitions only.
use Rattle.std.specs.Prelude.{ℕ, zero, suc, ◌+◌, ◌*◌, ◌/◌, ◌≤◌, ◌≡◌, Bool, false, cond, List, get_or, eqb, ℤ, pos, negsuc}
use Rattle.still_pgm.specs.Sizes.{padded}
use Rattle.still_lists.specs.declared.Counts.{Counts}

-- how many units lie along a side
abbrev pub along : ℕ → ℕ
along side = (side + 63) / 64

-- how many samples, blocks, units and totals a picture of these padded sides has, and the samples of the scratch
abbrev pub sample_count : Counts → ℕ
sample_count n = n.width * n.height

abbrev pub block_count : Counts → ℕ
block_count n = (n.width / 8) * (n.height / 8)

abbrev pub unit_count : Counts → ℕ
unit_count n = along n.width * along n.height

abbrev pub total_count : Counts → ℕ
total_count n = 12 * unit_count n

abbrev pub scratch_count : Counts → ℕ
scratch_count n = n.width * 8

-- the counts of a picture of this visible size, and the room that they need at most
pub record Counted (w h : ℕ) (n : Counts) : Type 0 where
  pub width : n.width ≡ padded w
  pub height : n.height ≡ padded h
  pub samples : sample_count n ≡ padded w * padded h
  pub blocks : block_count n ≡ (padded w / 8) * (padded h / 8)
  pub units : unit_count n ≡ along (padded w) * along (padded h)
  pub totals : total_count n ≡ 12 * unit_count n
  pub scratch : scratch_count n ≡ padded w * 8
  pub samples-room : sample_count n ≤ 786432
  pub blocks-room : block_count n ≤ 12288
  pub units-room : unit_count n ≤ 320
  pub width_room : n.width ≤ 4096

-- two totals are the same
unfoldable pub same_total : ℤ → ℤ → Bool
same_total (pos a) (pos b) = eqb a b
same_total (negsuc a) (negsuc b) = eqb a b
same_total (pos a) (negsuc b) = false
same_total (negsuc a) (pos b) = false

-- in how many of the first n units the measured total differs from the tried one of a trial number
unfoldable pub differ : List ℤ → List ℤ → ℕ → ℕ → ℕ
differ tried measured trial zero = 0
differ tried measured trial (suc u) =
    differ tried measured trial u + cond (same_total (get_or tried (12 * u + trial) (pos 0)) (get_or measured u (pos 0))) 0 1
