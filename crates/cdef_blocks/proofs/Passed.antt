-- What the checks of the block filter and of the trial say of the plane that they make of the caller's.
use Rattle.std.specs.Prelude.{◌≡◌, Ok, List, ℕ}
use Rattle.cdef_spec.specs.declared.Block.{Block}
use Rattle.cdef_spec.specs.declared.FilterParams.{FilterParams}
use Rattle.cdef_spec.specs.declared.TrialWay.{TrialWay}
use Rattle.cdef_spec.specs.declared.WorkingDamping.{WorkingDamping}
use Rattle.cdef_spec.specs.declared.full.FullPlane.{FullPlane}
use Rattle.cdef_spec.specs.Answers.{code_of}
use Rattle.cdef_spec.specs.Lent.{plane_in_full}
use Rattle.cdef_spec.specs.Document01.{Plane}
use Rattle.cdef_spec.specs.Questions.{first_no}
use Rattle.check_block.specs.CornerLaws.{passes}
use Rattle.check_block.specs.Parts.{filter_first}
use Rattle.check_block.specs.TrialParts.{trial_first}

module _ (f : FullPlane) (p : Plane) (same : plane_in_full f ≡ p) where
  pub filter-passes : (b : Block) (q : FilterParams) (y0 : ℕ) (dst : List ℕ) → code_of (Ok f) ≡ first_no (filter_first p b q y0 dst) → first_no (filter_first (plane_in_full f) b q y0 dst) ≡ 0
  filter-passes b q y0 dst = passes (λ p. first_no (filter_first p b q y0 dst)) f p same

  pub trial-passes : (b : Block) (way : TrialWay) (dir : ℕ) (damping : WorkingDamping) (depth : ℕ) (out : List ℕ) → code_of (Ok f) ≡ first_no (trial_first p b way dir damping depth out) → first_no (trial_first (plane_in_full f) b way dir damping depth out) ≡ 0
  trial-passes b way dir damping depth out = passes (λ p. first_no (trial_first p b way dir damping depth out)) f p same
