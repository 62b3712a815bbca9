-- What follows, as facts, where all checks of the direction of a block pass.
use Rattle.std.specs.Prelude.{◌≡◌, true, ℕ, ◌<◌}
use Rattle.std.proofs.Common.{arith}
use Rattle.cdef_spec.specs.Document01.{Plane}
use Rattle.cdef_spec.specs.Questions.{cut_taken}
use Rattle.cdef_spec.specs.QuestionLaws.{first-yes}
use Rattle.cdef_spec.specs.BlockCalls.{direction_no}
use Rattle.check_sides.specs.SideLaws.{corner-low}
use Rattle.check_block.specs.PartLaws.{PlaneFacts, plane-facts}

pub record DirectionFacts (p : Plane) (depth y x : ℕ) : Type 0 where
  pub plane : PlaneFacts p depth
  pub x-in : x < p.width
  pub y-in : y < p.height
  pub cut : cut_taken p depth y x ≡ true

module _ (p : Plane) (depth y x : ℕ) where
  pub direction-facts : direction_no p depth y x ≡ 0 → DirectionFacts p depth y x
  unfolding direction_no
  direction-facts z =
      let a = first-yes _ _ (λ e. omega arith) z in
      let b = first-yes _ _ (λ e. omega arith) a.1 in
      let c = first-yes _ _ (λ e. omega arith) b.1 in
      let d = first-yes _ _ (λ e. omega arith) c.1 in
      let f = first-yes _ _ (λ e. omega arith) d.1 in
      let k = corner-low p y x d.0 in
      record { plane = plane-facts p depth a.0 b.0 c.0; x-in = k.0; y-in = k.1; cut = f.0 }
