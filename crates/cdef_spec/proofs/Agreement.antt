-- The proof of demand 3 (RULES, Agreement).
use Rattle.std.specs.Prelude.{◌≡◌, refl, Bool, true, false, cond, ◌&&◌, ℤ, get_or, length, Option}
use Rattle.std.proofs.Math.Path.{sym, ap}
use Rattle.std.proofs.Common.{◌∙◌, eqb-true, eq-eqb, pow_pos}
use mathlib.Core.List.{List, [], ◌∷◌}
use Prim.Native.Nat.{ℕ, ◌+◌, ◌*◌, ◌/◌, ◌%◌, ◌^◌, ◌<◌}
use native.Mathlib.Omega.{arith}
use Rattle.std.proofs.Math.Dec.{eqb}
use Rattle.std.proofs.Math.IntN.{pos}
use Rattle.cdef_spec.specs.declared.SignalledDamping.{SignalledDamping}
use Rattle.cdef_spec.specs.declared.UnitPair.{UnitPair}
use Rattle.cdef_spec.specs.declared.Visible.{Visible}
use Rattle.cdef_spec.specs.WordsLaws.{length-table, get_or-table, and_both, and-make}
use Rattle.cdef_spec.specs.Document01.{mark, or_else, in_force, trial_number, is_trial_pair}
use Rattle.cdef_spec.specs.Picture.{PlaneKind, luma, chroma, Picture, sub_x, sub_y, plane_width, plane_height, block_width, block_height, units, unit_at, at_place, filtered_by, distance_of, visible_cols, visible_rows, block_distance, counted, unit_total, tried_total, measured_total, pair_at, applied_at, plane_from, applied_plane}
use Rattle.cdef_spec.specs.Answers.{taken, refused, nothing, result_of}
use Rattle.cdef_spec.specs.Questions.{all_below, flags_taken, full_planes, picture_listed, visible_taken, picture_taken, primary_taken, secondary_taken, pair_taken, all_samples_below}
use Rattle.cdef_spec.specs.FrameCalls.{trying_no, trying_outcome, applying_no, applying_outcome, scratch_length, measuring_no, measuring_outcome}
use Rattle.cdef_spec.specs.Demand3.{off, other_kind, with_directions, Agrees, own_input_passes, Demand3}
use Rattle.cdef_spec.specs.DistanceLaws.{total-same, block_same}
use Rattle.cdef_spec.specs.GeometryLaws.{Tiled, tiled, row_of, at-plane}
use Rattle.cdef_spec.specs.QuestionLaws.{below_get, below-make, Taken, questions-yes, all_yes, samples-fit}
use Rattle.cdef_spec.proofs.PairLaws.{trial-of}
use Rattle.cdef_spec.proofs.AppliedLaws.{in_rows, in-cols, applied-here, applied-low}

pub result-zero : (n : ℕ) → result_of n nothing ≡ taken nothing → n ≡ 0
unfolding result_of
result-zero n e = go (eqb n 0) refl e
  where
    go : (b : Bool) → eqb n 0 ≡ b → cond b (taken nothing) (refused n) ≡ taken nothing → n ≡ 0
    go true p e = eqb-true n 0 p
    go false p e = let z : ◌≡◌ {A = ℕ} 0 1 = cc in absurd (omega arith)

-- ---- other directions and variances leave the plane, its flags and the visible size as they are

own_x : (k : PlaneKind) (vars : List ℕ) → sub_x (other_kind k vars) ≡ sub_x k
unfolding sub_x other_kind
own_x (luma old) vars = refl
own_x (chroma sx sy) vars = refl

own-y : (k : PlaneKind) (vars : List ℕ) → sub_y (other_kind k vars) ≡ sub_y k
unfolding sub_y other_kind
own-y (luma old) vars = refl
own-y (chroma sx sy) vars = refl

own-flags : (k : PlaneKind) (vars : List ℕ) → flags_taken (other_kind k vars) ≡ flags_taken k
unfolding flags_taken other_kind
own-flags (luma old) vars = refl
own-flags (chroma sx sy) vars = refl

own-width : (q : Picture) (dirs vars : List ℕ) → plane_width (with_directions q dirs vars) ≡ plane_width q
unfolding plane_width with_directions
own-width q dirs vars = rw (own_x q.kind vars)

own-height : (q : Picture) (dirs vars : List ℕ) → plane_height (with_directions q dirs vars) ≡ plane_height q
unfolding plane_height with_directions
own-height q dirs vars = rw (own-y q.kind vars)

own-visible : (q : Picture) (dirs vars : List ℕ) (v : Visible) → visible_taken (with_directions q dirs vars) v ≡ visible_taken q v
unfolding visible_taken with_directions
own-visible q dirs vars v = refl

-- ---- what applying leaves, for a figure s

module _ (q : Picture) (visible : Visible) (snapshot original : List ℕ) (pairs : List UnitPair) (s : SignalledDamping) where
  abbrev left : List ℕ
  left = applied_plane q s snapshot pairs snapshot

  -- what trying's acceptance says
  module _ (totals : List ℤ) (t : Taken q s (snapshot ∷ original ∷ []) (eqb (length totals) (12 * units q) && visible_taken q visible) true (snapshot ∷ original ∷ [])) where
    fine : Tiled q
    fine = let b = and_both _ _ t.two in tiled q b.0 b.1 t.three

    fits : (k : ℕ) → get_or snapshot k 0 < 2 ^ q.depth
    fits = unfold all_samples_below in below_get (2 ^ q.depth) snapshot (and_both _ _ t.nine).0 (pow_pos q.depth)

    no-mark : (k : ℕ) → get_or snapshot k 0 < mark
    no-mark k = omega (arith, fits k, samples-fit q.depth t.one)

    left-length : length left ≡ plane_width q * plane_height q
    unfolding applied_plane plane_from
    left-length = length-table _ _

    left-fits : all_below (2 ^ q.depth) left ≡ true
    unfolding applied_plane plane_from
    left-fits =
        let n : ℕ = plane_width q * plane_height q in
        let f : ℕ → ℕ = λ k. applied_at q s snapshot pairs snapshot (k / plane_width q) (k % plane_width q) in
        below-make (2 ^ q.depth) _ (λ k b.
        let l : k < n = omega (arith, length-table n f) in
        rw (get_or-table n f 0 k l)
        (applied-low q s snapshot pairs fine no-mark (2 ^ q.depth) fits (k / plane_width q) (k % plane_width q) (row_of (plane_width q) (plane_height q) k l).0 (row_of (plane_width q) (plane_height q) k l).1))

    -- measuring accepts what applying left, with directions, variances and a damping of its own
    module _ (dirs vars : List ℕ) (dm : Option SignalledDamping) (measured : List ℤ) (scratch : List ℕ) where
      abbrev own : Picture
      own = with_directions q dirs vars

      own-taken : own_input_passes own dm measured scratch ≡ true
          → Taken own (in_force dm) (left ∷ original ∷ []) ((eqb (length measured) (units own) && eqb (length scratch) (scratch_length own)) && visible_taken own visible) (pair_taken off) (left ∷ original ∷ [])
      unfolding own_input_passes full_planes all_samples_below pair_taken primary_taken secondary_taken with_directions
      own-taken accepts =
          let own-78 = and_both (picture_listed own && (eqb (length measured) (units own) && eqb (length scratch) (scratch_length own))) (picture_taken own (in_force dm)) accepts in
          let own-7 = and_both (picture_listed own) (eqb (length measured) (units own) && eqb (length scratch) (scratch_length own)) own-78.0 in
          let four = and_both (eqb (length snapshot) (plane_width q * plane_height q)) _ t.four in
          let seven = and_both (picture_listed q) (eqb (length totals) (12 * units q) && visible_taken q visible) t.seven in
          let nine = and_both (all_below (2 ^ q.depth) snapshot) _ t.nine in
          record {
            one = t.one;
            two = t.two;
            three = own-flags q.kind vars ∙ t.three;
            four = rw (own-width q dirs vars, own-height q dirs vars) (and-make (eq-eqb _ _ left-length) four.1);
            seven = and-make own-7.0 (and-make own-7.1 (own-visible q dirs vars visible ∙ (and_both (eqb (length totals) (12 * units q)) (visible_taken q visible) seven.1).1));
            eight = and-make own-78.1 refl;
            nine = and-make left-fits nine.1;
          }

    -- a unit's totals
    module _ (trials : (u : ℕ) → u < units q → is_trial_pair (pair_at pairs u) ≡ true) where
      totals-agree : (u : ℕ) → u < units q → measured_total q s visible left original off u ≡ tried_total q s visible snapshot original u (trial_number (pair_at pairs u))
      unfolding measured_total tried_total applied_plane
      totals-agree u hu = total-same q visible u _ _ (λ by bx hy hx e k.
          block_same q visible by bx (at_place q original) _ _ (λ i j hi hj.
          at-plane q (applied_at q s snapshot pairs snapshot) _ _ (in_rows q s snapshot pairs fine no-mark by i hy hi) (in-cols q s snapshot pairs fine no-mark bx j hx hj)
          ∙ applied-here q s snapshot pairs fine no-mark by bx i j hy hx hi hj (eqb-true _ _ (unfold counted in (and_both _ _ k).0))
          ∙ ap (λ (p : UnitPair). or_else mark (filtered_by q s snapshot p by bx (by * block_height q + i) (bx * block_width q + j))) (ap (pair_at pairs) e ∙ sym (trial-of (pair_at pairs u) (trials u hu)).1)))

-- ---- what an accepted call leaves

module _ (q : Picture) (d : Option SignalledDamping) (v : Visible) (snapshot original : List ℕ) (totals : List ℤ) (z : trying_no q d v snapshot original totals ≡ 0) where
  trying-taken : Taken q (in_force d) (snapshot ∷ original ∷ []) (eqb (length totals) (12 * units q) && visible_taken q v) true (snapshot ∷ original ∷ [])
  trying-taken = unfold trying_no in questions-yes q _ _ _ _ _ z

  tried-length : length (trying_outcome q d v snapshot original totals).totals ≡ 12 * units q
  unfolding trying_outcome
  tried-length = rw z (length-table (12 * units q) _)

  tried-at : (u t : ℕ) → u < units q → t < 12 → get_or (trying_outcome q d v snapshot original totals).totals (12 * u + t) (pos 0) ≡ pos (tried_total q (in_force d) v snapshot original u t)
  unfolding trying_outcome
  tried-at u t hu ht =
      let dv : (12 * u + t) / 12 ≡ u = omega arith in
      let md : (12 * u + t) % 12 ≡ t = omega arith in
      rw z (get_or-table (12 * units q) _ (pos 0) (12 * u + t) (omega arith) ∙ rw (dv, md))

applied-left : (q : Picture) (d : Option SignalledDamping) (snapshot : List ℕ) (pairs : List UnitPair) → applying_no q d snapshot pairs snapshot ≡ 0 → (applying_outcome q d snapshot pairs snapshot).plane ≡ applied_plane q (in_force d) snapshot pairs snapshot
unfolding applying_outcome
applied-left q d snapshot pairs z = rw z

module _ (q : Picture) (d : Option SignalledDamping) (v : Visible) (plane original : List ℕ) (measured : List ℤ) (scratch : List ℕ) where
  measuring-yes : Taken q (in_force d) (plane ∷ original ∷ []) ((eqb (length measured) (units q) && eqb (length scratch) (scratch_length q)) && visible_taken q v) (pair_taken off) (plane ∷ original ∷ [])
      → (measuring_outcome q d v plane original off measured scratch).answer ≡ taken nothing
  unfolding measuring_outcome measuring_no result_of
  measuring-yes t = rw (all_yes q _ _ _ _ _ t)

  module _ (z : measuring_no q d v plane original off measured scratch ≡ 0) where
    measured-length : length (measuring_outcome q d v plane original off measured scratch).totals ≡ units q
    unfolding measuring_outcome
    measured-length = rw z (length-table (units q) _)

    measured-at : (u : ℕ) → u < units q → get_or (measuring_outcome q d v plane original off measured scratch).totals u (pos 0) ≡ pos (measured_total q (in_force d) v plane original off u)
    unfolding measuring_outcome
    measured-at u hu = rw z (get_or-table (units q) _ (pos 0) u hu)

-- with pair 0, 0 measuring reads no direction, variance or damping
measured-by : (k : PlaneKind) (depth width height : ℕ) (skip old dirs vars : List ℕ) (s s' : SignalledDamping) (v : Visible) (plane original : List ℕ) (u : ℕ)
    → measured_total (with_directions (record { kind = k; depth = depth; width = width; height = height; skip = skip; dirs = old }) dirs vars) s' v plane original off u
    ≡ measured_total (record { kind = k; depth = depth; width = width; height = height; skip = skip; dirs = old }) s v plane original off u
unfolding measured_total unit_total unit_at counted block_distance distance_of visible_rows visible_cols block_height block_width plane_width at_place sub_x sub_y with_directions other_kind
measured-by (luma w) depth width height skip old dirs vars s s' v plane original u = refl
measured-by (chroma sx sy) depth width height skip old dirs vars s s' v plane original u = refl

same_units : (q : Picture) (dirs vars : List ℕ) → units (with_directions q dirs vars) ≡ units q
unfolding units with_directions
same_units q dirs vars = refl

-- each unit's measured total, for a picture q' whose totals with pair 0, 0 are those of q
module _ (q q' : Picture) (visible : Visible) (snapshot original : List ℕ) (pairs : List UnitPair) (dt dm : Option SignalledDamping) (totals measured : List ℤ) (scratch : List ℕ) where
  all-units : units q' ≡ units q
      → ((plane : List ℕ) (u : ℕ) → measured_total q' (in_force dm) visible plane original off u ≡ measured_total q (in_force dt) visible plane original off u)
      → trying_no q dt visible snapshot original totals ≡ 0
      → ((u : ℕ) → u < units q → is_trial_pair (pair_at pairs u) ≡ true)
      → (measuring_outcome q' dm visible (applied_plane q (in_force dt) snapshot pairs snapshot) original off measured scratch).answer ≡ taken nothing
      → Agrees q pairs (trying_outcome q dt visible snapshot original totals).totals (measuring_outcome q' dm visible (applied_plane q (in_force dt) snapshot pairs snapshot) original off measured scratch).totals
  all-units eu same zt trials ym =
      let plane : List ℕ = applied_plane q (in_force dt) snapshot pairs snapshot in
      let zm : measuring_no q' dm visible plane original off measured scratch ≡ 0 = unfold measuring_outcome in result-zero _ ym in
      let t = trying-taken q dt visible snapshot original totals zt in
      record {
        tried-length = tried-length q dt visible snapshot original totals zt;
        measured-length = measured-length q' dm visible plane original measured scratch zm ∙ eu;
        unit-by-unit = λ u hu.
            measured-at q' dm visible plane original measured scratch zm u (rw eu hu)
            ∙ ap pos (same plane u ∙ totals-agree q visible snapshot original pairs (in_force dt) totals t trials u hu)
            ∙ sym (tried-at q dt visible snapshot original totals zt u (trial_number (pair_at pairs u)) hu (trial-of (pair_at pairs u) (trials u hu)).0);
      }

-- the premise on measuring's own input is no more than what measuring validates: it holds wherever measuring accepts its input
pub own-from-accepted : (q : Picture) (d : Option SignalledDamping) (v : Visible) (plane original : List ℕ) (measured : List ℤ) (scratch : List ℕ)
    → (measuring_outcome q d v plane original off measured scratch).answer ≡ taken nothing → own_input_passes q d measured scratch ≡ true
unfolding measuring_outcome measuring_no own_input_passes
own-from-accepted q d v plane original measured scratch y =
    let t = questions-yes q _ _ _ _ _ (result-zero (measuring_no q d v plane original off measured scratch) y) in
    let seven = and_both (picture_listed q) ((eqb (length measured) (units q) && eqb (length scratch) (scratch_length q)) && visible_taken q v) t.seven in
    let lists = and_both (eqb (length measured) (units q) && eqb (length scratch) (scratch_length q)) (visible_taken q v) seven.1 in
    let eight = and_both (picture_taken q (in_force d)) (pair_taken off) t.eight in
    and-make (and-make seven.0 lists.0) eight.0

-- with the directions, variances and figure that were tried, totals and scratch of their length are all that the premise asks for
pub own-from-tried : (q : Picture) (d dm : Option SignalledDamping) (v : Visible) (snapshot original : List ℕ) (totals measured : List ℤ) (scratch : List ℕ)
    → trying_no q d v snapshot original totals ≡ 0 → in_force dm ≡ in_force d → length measured ≡ units q → length scratch ≡ scratch_length q → own_input_passes q dm measured scratch ≡ true
unfolding own_input_passes
own-from-tried q d dm v snapshot original totals measured scratch z e hm hs =
    let t = trying-taken q d v snapshot original totals z in
    let seven = and_both (picture_listed q) (eqb (length totals) (12 * units q) && visible_taken q v) t.seven in
    let eight = and_both (picture_taken q (in_force d)) true t.eight in
    and-make (and-make seven.0 (and-make (eq-eqb _ _ hm) (eq-eqb _ _ hs))) (rw e eight.0)

-- DEMAND 3 holds.
pub agreement : Demand3
agreement q visible snapshot original pairs dt da dm totals measured dirs vars scratch ea trials yt ya accepts =
    let zt : trying_no q dt visible snapshot original totals ≡ 0 = unfold trying_outcome in result-zero _ yt in
    let za : applying_no q da snapshot pairs snapshot ≡ 0 = unfold applying_outcome in result-zero _ ya in
    let t = trying-taken q dt visible snapshot original totals zt in
    let plane : List ℕ = applied_plane q (in_force dt) snapshot pairs snapshot in
    let l : (applying_outcome q da snapshot pairs snapshot).plane ≡ plane = applied-left q da snapshot pairs za ∙ ap (λ (n : SignalledDamping). applied_plane q n snapshot pairs snapshot) ea in
    let own : Picture = with_directions q dirs vars in
    let y : (measuring_outcome own dm visible plane original off measured scratch).answer ≡ taken nothing =
    measuring-yes own dm visible plane original measured scratch (own-taken q visible snapshot original pairs (in_force dt) totals t dirs vars dm measured scratch accepts) in
    rw l (
      y,
      all-units q own visible snapshot original pairs dt dm totals measured scratch (same_units q dirs vars)
          (λ p u. measured-by q.kind q.depth q.width q.height q.skip q.dirs dirs vars (in_force dt) (in_force dm) visible p original u) zt trials y,
    )
