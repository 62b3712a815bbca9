-- What follows, as facts, where all checks of a distance pass.
use Rattle.std.specs.Prelude.{◌≡◌, true, List, ℕ, ◌*◌, ◌<◌, length}
use Rattle.std.proofs.Common.{arith}
use Rattle.cdef_spec.specs.WordsLaws.{and_both}
use Rattle.cdef_spec.specs.Document01.{Plane}
use Rattle.cdef_spec.specs.Questions.{full, cut_taken}
use Rattle.cdef_spec.specs.QuestionLaws.{first-yes}
use Rattle.cdef_spec.specs.BlockCalls.{alike, distance_no}
use Rattle.check_block.specs.PartLaws.{PlaneFacts, plane-facts}
use Rattle.check_sides.specs.SideLaws.{full-length, corner-low}

pub record DistanceFacts (p : Plane) (d : List ℕ) (depth y x : ℕ) : Type 0 where
  pub plane : PlaneFacts p depth
  pub other-full : length d ≡ p.width * p.height
  pub x-in : x < p.width
  pub y-in : y < p.height
  pub cut : cut_taken p depth y x ≡ true
  pub other_cut : cut_taken (alike p d) depth y x ≡ true

module _ (p : Plane) (d : List ℕ) (depth y x : ℕ) where
  pub distance-facts : distance_no p d depth y x ≡ 0 → DistanceFacts p d depth y x
  unfolding distance_no
  distance-facts z =
      let a = first-yes _ _ (λ e. omega arith) z in
      let b = first-yes _ _ (λ e. omega arith) a.1 in
      let c = first-yes _ _ (λ e. omega arith) b.1 in
      let f = first-yes _ _ (λ e. omega arith) c.1 in
      let g = first-yes _ _ (λ e. omega arith) f.1 in
      let h = and_both (full p) (full (alike p d)) c.0 in
      let k = corner-low p y x f.0 in
      let l = and_both (cut_taken p depth y x) (cut_taken (alike p d) depth y x) g.0 in
      record {
        plane = plane-facts p depth a.0 b.0 h.0;
        other-full = full-length (alike p d) h.1;
        x-in = k.0;
        y-in = k.1;
        cut = l.0;
        other_cut = l.1;
      }
