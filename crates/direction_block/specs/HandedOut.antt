-- What the direction call returns passes question 8 later: a direction below 8, a variance up to 860,160.
use Rattle.std.specs.Prelude.{◌≡◌, true, ℕ, ◌<◌, ltb}
use Rattle.std.proofs.Common.{arith}
use borrow.Author.Tests.{lt-ltb, le-leb, ltb-true}
use Rattle.cdef_spec.specs.Document01.{Plane, direction_input, block_direction, block_variance}
use Rattle.cdef_spec.specs.WordsLaws.{and_both}
use Rattle.cdef_spec.specs.Questions.{ask, depth_taken, corner_taken, cut_taken, variance_taken}
use Rattle.cdef_spec.specs.QuestionLaws.{first-yes, depth-high}
use Rattle.cdef_spec.specs.BlockCalls.{direction_no}
use Rattle.direction_levels.specs.LevelLaws.{input-small}
use Rattle.direction_block.specs.FoundLaws.{direction-below, variance-below}

module _ (p : Plane) (d y x : ℕ) (taken : direction_no p d y x ≡ 0) where
  yes : (depth_taken d ≡ true) × (corner_taken p y x ≡ true) × (cut_taken p d y x ≡ true)
  unfolding direction_no
  yes =
      let one = first-yes (ask 1 (depth_taken d)) _ (λ e. omega arith) taken in
      let two = first-yes (ask 2 _) _ (λ e. omega arith) one.1 in
      let four = first-yes (ask 4 _) _ (λ e. omega arith) two.1 in
      let five = first-yes (ask 5 _) _ (λ e. omega arith) four.1 in
      let nine = first-yes (ask 9 _) _ (λ e. omega arith) five.1 in
      (one.0, five.0, nine.0)

  corner : (x < p.width) × (y < p.height)
  unfolding corner_taken
  corner =
      let b = and_both (ltb x p.width) (ltb y p.height) yes.1 in
      (ltb-true x p.width b.0, ltb-true y p.height b.1)

  pub direction-passes : ltb (block_direction p d y x) 8 ≡ true
  unfolding block_direction
  direction-passes = lt-ltb _ 8 (direction-below (direction_input p d y x) (input-small p.samples p.width p.height d y x corner.1 corner.0 yes.2 (depth-high d yes.0).0))

  pub variance-passes : variance_taken (block_variance p d y x) ≡ true
  unfolding variance_taken block_variance
  variance-passes = le-leb _ 860160 (variance-below (direction_input p d y x) (input-small p.samples p.width p.height d y x corner.1 corner.0 yes.2 (depth-high d yes.0).0))
