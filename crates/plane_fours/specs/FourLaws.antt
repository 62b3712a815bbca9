-- Sixteen samples from lists of their taps are the plane's, by which strengths are 0.
use Rattle.std.specs.Prelude.{◌≡◌, ℕ, List, slice_index}
use Rattle.std.proofs.Common.{◌∙◌}
use Rattle.arith_sample.specs.Sample.{free_of}
use Rattle.arith_sample.specs.Upto.{upto, upto-ext}
use Rattle.filter_rows.specs.Sums.{pri_at, sec_at, filtered_at}
use Rattle.filter_rows.specs.declared.Taps.{Taps}
use Rattle.filter_rows.specs.declared.Strength.{Strength}
use Rattle.plane_taps.specs.Plain.{AllLow}
use Rattle.plane_taps.specs.PlainLaws.{pri-plain, sec-plain, both-plain}
use Rattle.plane_taps.specs.Runs.{run_by, on_by, back_by}
use Rattle.plane_fours.specs.Fours.{four_at, both_lane, both_lanes, pri_lane, pri_lanes, sec_lane, sec_lanes}
use Rattle.plane_fours.specs.RunLaws.{pair_is, centre-is}

module _ (l : List ℕ) (low : AllLow l) (w k : ℕ) (t : Taps) {c : List ℕ} (ec : c ≡ run_by 4 l w k) where
  module _ {a0 b0 a1 b1 : List ℕ} (f : Strength) (e0 : a0 ≡ on_by 4 l w k t.p0) (g0 : b0 ≡ back_by 4 l w k t.p0) (e1 : a1 ≡ on_by 4 l w k t.p1) (g1 : b1 ≡ back_by 4 l w k t.p1) where
    pub pri-four : {r : List ℕ} → r ≡ pri_lanes c a0 b0 a1 b1 f → r ≡ upto (λ j. free_of (slice_index l (four_at w k j)) (pri_at l (four_at w k j) t f)) 16
    unfolding pri_lanes pri_lane
    pri-four h = h ∙ upto-ext _ _ 16 (λ n i. rw (ec, e0, g0, e1, g1, centre-is l w k n i, pair_is l w k n i t.p0, pair_is l w k n i t.p1, pri-plain l low (four_at w k n) t f))

  module _ {a0 b0 a1 b1 a2 b2 a3 b3 : List ℕ} (g : Strength) (e0 : a0 ≡ on_by 4 l w k t.q0) (g0 : b0 ≡ back_by 4 l w k t.q0) (e1 : a1 ≡ on_by 4 l w k t.q1) (g1 : b1 ≡ back_by 4 l w k t.q1) (e2 : a2 ≡ on_by 4 l w k t.r0) (g2 : b2 ≡ back_by 4 l w k t.r0) (e3 : a3 ≡ on_by 4 l w k t.r1) (g3 : b3 ≡ back_by 4 l w k t.r1) where
    pub sec-four : {r : List ℕ} → r ≡ sec_lanes c a0 b0 a1 b1 a2 b2 a3 b3 g → r ≡ upto (λ j. free_of (slice_index l (four_at w k j)) (sec_at l (four_at w k j) t g)) 16
    unfolding sec_lanes sec_lane
    sec-four h = h ∙ upto-ext _ _ 16 (λ n i. rw (ec, e0, g0, e1, g1, e2, g2, e3, g3, centre-is l w k n i, pair_is l w k n i t.q0, pair_is l w k n i t.q1, pair_is l w k n i t.r0, pair_is l w k n i t.r1, sec-plain l low (four_at w k n) t g))

  module _ {a0 b0 a1 b1 a2 b2 a3 b3 a4 b4 a5 b5 : List ℕ} (f g : Strength) (e0 : a0 ≡ on_by 4 l w k t.p0) (g0 : b0 ≡ back_by 4 l w k t.p0) (e1 : a1 ≡ on_by 4 l w k t.p1) (g1 : b1 ≡ back_by 4 l w k t.p1)
      (e2 : a2 ≡ on_by 4 l w k t.q0) (g2 : b2 ≡ back_by 4 l w k t.q0) (e3 : a3 ≡ on_by 4 l w k t.q1) (g3 : b3 ≡ back_by 4 l w k t.q1) (e4 : a4 ≡ on_by 4 l w k t.r0) (g4 : b4 ≡ back_by 4 l w k t.r0) (e5 : a5 ≡ on_by 4 l w k t.r1) (g5 : b5 ≡ back_by 4 l w k t.r1) where
    pub both-four : {r : List ℕ} → r ≡ both_lanes c a0 b0 a1 b1 a2 b2 a3 b3 a4 b4 a5 b5 f g → r ≡ upto (λ j. filtered_at l (four_at w k j) t f g) 16
    unfolding both_lanes both_lane
    both-four h = h ∙ upto-ext _ _ 16 (λ n i. rw (ec, e0, g0, e1, g1, e2, g2, e3, g3, e4, g4, e5, g5, centre-is l w k n i, pair_is l w k n i t.p0, pair_is l w k n i t.p1, pair_is l w k n i t.q0, pair_is l w k n i t.q1, pair_is l w k n i t.r0, pair_is l w k n i t.r1) (both-plain l low (four_at w k n) t f g))
