-- The three calls with any list of pairs that keeps the laws: the agreement, and the two kinds of lists.
use Rattle.std.specs.Prelude.{◌≡◌, refl, Bool, true, ◌&&◌, List, ℕ, ℤ, eqb, length, Option}
use Rattle.std.proofs.Common.{sym, subst, ◌∙◌, eq-eqb}
use Rattle.cdef_spec.specs.declared.SignalledDamping.{SignalledDamping}
use Rattle.cdef_spec.specs.declared.UnitPair.{UnitPair}
use Rattle.cdef_spec.specs.declared.Visible.{Visible}
use Rattle.cdef_spec.specs.WordsLaws.{and_both, and-make}
use Rattle.cdef_spec.specs.Document01.{in_force}
use Rattle.cdef_spec.specs.Picture.{Picture, units}
use Rattle.cdef_spec.specs.Questions.{picture_listed, picture_taken, primary_taken, secondary_taken, pair_taken, all_taken}
use Rattle.cdef_spec.specs.QuestionLaws.{questions-yes, all_yes as passes}
use Rattle.cdef_spec.specs.FrameCalls.{applying_no, applying_outcome, applying_lists_no, applying_lists_outcome, pairs_of}
use Rattle.cdef_spec.specs.Demand3.{Agrees}
use Rattle.cdef_pairs.specs.Applying.{applying_by_no, applying_by_outcome}
use Rattle.agree_parts.specs.Parts.{trial_pairs, copied}
use Rattle.cdef_agree.specs.Agree.{agreed as totals_agree, is_agreed, AgreeOutcome, agree_with, agree_by_outcome, agree_outcome, agree_lists_outcome}
use Rattle.cdef_agree.specs.AgreeLaws.{all_yes, with-same, agreed}

module _ (q : Picture) (d : Option SignalledDamping) (v : Visible) (snapshot original : List ℕ) where
  module _ (listed : ℕ → Bool) (taken : Bool) (ps : List UnitPair) (many : (n : ℕ) → listed n ≡ true → length ps ≡ n) (same : (n : ℕ) → listed n ≡ true → taken ≡ all_taken pair_taken ps) where
    -- what a list's own tests let through, applying lets through
    taken-too : (dst : List ℕ) → applying_by_no q d snapshot listed taken dst ≡ 0 → applying_no q d snapshot ps dst ≡ 0
    unfolding applying_by_no applying_no
    taken-too dst z =
        let t = questions-yes _ _ _ _ _ _ z in
        let a = and_both (picture_listed q) (listed (units q)) t.seven in
        let b = and_both (picture_taken q (in_force d)) taken t.eight in
        passes _ _ _ _ _ _ (record { one = t.one; two = t.two; three = t.three; four = t.four; seven = and-make a.0 (eq-eqb _ _ (many _ a.1)); eight = and-make b.0 (sym (same _ a.1) ∙ b.1); nine = t.nine })

    outcome-too : (dst : List ℕ) → applying_by_no q d snapshot listed taken dst ≡ 0 → applying_by_outcome q d snapshot listed taken ps dst ≡ applying_outcome q d snapshot ps dst
    unfolding applying_by_outcome applying_outcome
    outcome-too dst z = rw (z, taken-too dst z)

    module _ (tried : List ℤ) (dst : List ℕ) (measured : List ℤ) (scratch : List ℕ) where
      pub agreed-by : is_agreed (agree_by_outcome q d v snapshot original listed taken ps tried dst measured scratch).answer ≡ true
          → Agrees q ps (agree_by_outcome q d v snapshot original listed taken ps tried dst measured scratch).tried (agree_by_outcome q d v snapshot original listed taken ps tried dst measured scratch).measured
      unfolding agree_by_outcome agree_outcome
      agreed-by h =
          let y = all_yes (trial_pairs ps) (applying_by_no q d snapshot listed taken) (applying_by_outcome q d snapshot listed taken ps) q d v snapshot original tried dst measured scratch h in
          let z = y.2 in
          let e : agree_with (trial_pairs ps) (applying_by_no q d snapshot listed taken) (applying_by_outcome q d snapshot listed taken ps) q d v snapshot original tried dst measured scratch ≡ agree_with (trial_pairs ps) (applying_no q d snapshot ps) (applying_outcome q d snapshot ps) q d v snapshot original tried dst measured scratch =
          with-same (trial_pairs ps) (trial_pairs ps) (applying_by_no q d snapshot listed taken) (applying_no q d snapshot ps) (applying_by_outcome q d snapshot listed taken ps) (applying_outcome q d snapshot ps) q d v snapshot original tried dst measured scratch refl (z ∙ sym (taken-too (copied snapshot dst) z)) (outcome-too (copied snapshot dst) z) in
          rw e (agreed q d v snapshot original ps tried dst measured scratch (rw e at h))

      pub agrees-so : (t : List ℤ) (l : List ℕ) (m : List ℤ) (n : List ℕ) → agree_by_outcome q d v snapshot original listed taken ps tried dst measured scratch ≡ record { answer = totals_agree; tried = t; dst = l; measured = m; scratch = n } → Agrees q ps t m
      unfolding is_agreed
      agrees-so t l m n o = subst (λ (x : AgreeOutcome). is_agreed x.answer ≡ true → Agrees q ps x.tried x.measured) o agreed-by refl

  -- by the tests of each kind of list
  module _ (tried : List ℤ) (dst : List ℕ) (measured : List ℤ) (scratch : List ℕ) where
    pub slice-agrees : (ps : List UnitPair) → agree_by_outcome q d v snapshot original (λ n. eqb (length ps) n) (all_taken pair_taken ps) ps tried dst measured scratch ≡ agree_outcome q d v snapshot original ps tried dst measured scratch
    unfolding agree_by_outcome agree_outcome applying_by_no applying_by_outcome applying_no applying_outcome
    slice-agrees ps = refl

    pub lists-agree : (pris secs : List ℕ)
        → agree_by_outcome q d v snapshot original (λ n. eqb (length pris) n && eqb (length secs) n) (all_taken primary_taken pris && all_taken secondary_taken secs) (pairs_of pris secs) tried dst measured scratch
        ≡ agree_lists_outcome q d v snapshot original pris secs tried dst measured scratch
    unfolding agree_by_outcome agree_lists_outcome applying_by_no applying_by_outcome applying_lists_no applying_lists_outcome
    lists-agree pris secs = refl
