-- What the three calls leave, from the answers that they return.
use Rattle.std.specs.Prelude.{◌≡◌, refl, Bool, true, false, List, ℕ, ℤ, Ok, Err, MatchResult, Result as RustResult, Option}
use Rattle.std.specs.Result.{IsErrAnd}
use Rattle.std.proofs.Common.{sym, ap, ◌∙◌, ne_eqb}
use Rattle.cdef_spec.specs.declared.SignalledDamping.{SignalledDamping}
use Rattle.cdef_spec.specs.declared.Refusal.{Refusal}
use Rattle.cdef_spec.specs.declared.UnitPair.{UnitPair}
use Rattle.cdef_spec.specs.declared.Visible.{Visible}
use Rattle.cdef_spec.specs.Picture.{Picture}
use Rattle.cdef_spec.specs.Answers.{nothing, number_of, result_of, error_code, read_done}
use Rattle.cdef_spec.specs.AnswerLaws.{coded}
use Rattle.cdef_spec.specs.FrameCalls.{trying_no, TryingOutcome, trying_outcome, ApplyingOutcome, measuring_no, MeasuringOutcome, measuring_outcome}
use Rattle.cdef_spec.specs.Demand3.{off}
use Rattle.cdef_pairs.specs.PairLaws.{number-back}
use Rattle.cdef_pairs.specs.Applying.{applying_by_no, applying_by_outcome}
use Rattle.agree_parts.specs.Parts.{trial_pairs, copied}
use Rattle.cdef_agree.specs.declared.NotCompared.{NotCompared}
use Rattle.cdef_agree.specs.Agree.{by_trying, by_pair_test, by_applying, by_measuring, agreed, rejected, AgreeOutcome, agree_with, agree_by_outcome}

-- the error code of a call that refused, and of one that is done
code-of : (n : ℕ) (r : Refusal) (x : RustResult (Unit {0}) Refusal) → x ≡ Err r → result_of n nothing ≡ read_done x → n ≡ error_code r
unfolding read_done number_of
code-of n r x e h = sym (number-back n) ∙ ap number_of (h ∙ ap read_done e)

none-of : (n : ℕ) (done : Unit {0}) (x : RustResult (Unit {0}) Refusal) → x ≡ Ok done → result_of n nothing ≡ read_done x → n ≡ 0
unfolding read_done number_of
none-of n done x e h = sym (number-back n) ∙ ap number_of (h ∙ ap read_done e)

abbrev not_done : NotCompared → RustResult (Unit {0}) NotCompared
not_done k = Err k

err-is : (j k : NotCompared) → not_done j ≡ not_done k → j ≡ k
err-is j k e = ap (λ (m : RustResult (Unit {0}) NotCompared). reason j m) e
  where
    reason : NotCompared → RustResult (Unit {0}) NotCompared → NotCompared
    reason d (Ok v) = d
    reason d (Err k) = k

-- what `map_err` makes of an answer: a refusal in its way, or the work done
module _ (way : Refusal → NotCompared) (x : RustResult (Unit {0}) Refusal) (m : RustResult (Unit {0}) NotCompared) (h : MatchResult x (λ v. m ≡ Ok v) (λ e. IsErrAnd m (λ k. k ≡ way e))) where
  pub handed : (k : NotCompared) → m ≡ Err k → (r : Refusal) × (x ≡ Err r) × (k ≡ way r)
  handed k e = go x m h e
    where
      go : (x : RustResult (Unit {0}) Refusal) (m : RustResult (Unit {0}) NotCompared) → MatchResult x (λ v. m ≡ Ok v) (λ e. IsErrAnd m (λ k. k ≡ way e)) → m ≡ Err k → (r : Refusal) × (x ≡ Err r) × (k ≡ way r)
      go (Ok v) m h e = cc
      go (Err r) (Ok v) h e = absurd h
      go (Err r) (Err j) h e = (r, refl, sym (err-is j k e) ∙ h)

  pub was_done : (v : Unit {0}) → m ≡ Ok v → (w : Unit {0}) × (x ≡ Ok w)
  was_done v e = go x m h e
    where
      go : (x : RustResult (Unit {0}) Refusal) (m : RustResult (Unit {0}) NotCompared) → MatchResult x (λ v. m ≡ Ok v) (λ e. IsErrAnd m (λ k. k ≡ way e)) → m ≡ Ok v → (w : Unit {0}) × (x ≡ Ok w)
      go (Ok w) m h e = (w, refl)
      go (Err r) (Ok v) h e = absurd h
      go (Err r) (Err j) h e = cc

module _ (q : Picture) (d : Option SignalledDamping) (v : Visible) (snapshot original : List ℕ) (listed : ℕ → Bool) (values : Bool) (ps : List UnitPair) (tried : List ℤ) (dst : List ℕ) (measured : List ℤ) (scratch : List ℕ) where
  abbrev out : AgreeOutcome
  out = agree_by_outcome q d v snapshot original listed values ps tried dst measured scratch

  -- trying answered x and left t
  module _ (x : RustResult (Unit {0}) Refusal) (t : List ℤ) (e : trying_outcome q d v snapshot original tried ≡ record { answer = read_done x; totals = t }) where
    tried-is : (trying_outcome q d v snapshot original tried).totals ≡ t
    tried-is = ap (λ (o : TryingOutcome). o.totals) e

    tried-answer : result_of (trying_no q d v snapshot original tried) nothing ≡ read_done x
    unfolding trying_outcome
    tried-answer = ap (λ (o : TryingOutcome). o.answer) e

    pub trying-stops : (r : Refusal) → x ≡ Err r → out ≡ record { answer = rejected by_trying (error_code r); tried = t; dst = dst; measured = measured; scratch = scratch }
    unfolding agree_by_outcome agree_with
    trying-stops r s = rw (tried-is, code-of _ r x s tried-answer, ne_eqb (error_code r) 0 (coded r)) refl

    module _ (done : Unit {0}) (s : x ≡ Ok done) where
      zero-first : trying_no q d v snapshot original tried ≡ 0
      zero-first = none-of _ done x s tried-answer

      pub pairs-stop : trial_pairs ps ≡ false → out ≡ record { answer = rejected by_pair_test 8; tried = t; dst = dst; measured = measured; scratch = scratch }
      unfolding agree_by_outcome agree_with
      pairs-stop p = rw (tried-is, zero-first, p) refl

      -- applying to the copy answered y and left l
      module _ (p : trial_pairs ps ≡ true) (y : RustResult (Unit {0}) Refusal) (l : List ℕ) (f : applying_by_outcome q d snapshot listed values ps (copied snapshot dst) ≡ record { answer = read_done y; plane = l }) where
        plane-is : (applying_by_outcome q d snapshot listed values ps (copied snapshot dst)).plane ≡ l
        plane-is = ap (λ (o : ApplyingOutcome). o.plane) f

        applied-answer : result_of (applying_by_no q d snapshot listed values (copied snapshot dst)) nothing ≡ read_done y
        unfolding applying_by_outcome
        applied-answer = ap (λ (o : ApplyingOutcome). o.answer) f

        pub applying-stops : (r : Refusal) → y ≡ Err r → out ≡ record { answer = rejected by_applying (error_code r); tried = t; dst = l; measured = measured; scratch = scratch }
        unfolding agree_by_outcome agree_with
        applying-stops r s2 = rw (tried-is, zero-first, p, plane-is, code-of _ r y s2 applied-answer, ne_eqb (error_code r) 0 (coded r)) refl

        -- measuring what that left answered z and left m and n
        module _ (done2 : Unit {0}) (s2 : y ≡ Ok done2) (z : RustResult (Unit {0}) Refusal) (m : List ℤ) (n : List ℕ) (g : measuring_outcome q d v l original off measured scratch ≡ record { answer = read_done z; totals = m; scratch = n }) where
          zero-second : applying_by_no q d snapshot listed values (copied snapshot dst) ≡ 0
          zero-second = none-of _ done2 y s2 applied-answer

          measured-is : (measuring_outcome q d v l original off measured scratch).totals ≡ m
          measured-is = ap (λ (o : MeasuringOutcome). o.totals) g

          scratch-is : (measuring_outcome q d v l original off measured scratch).scratch ≡ n
          scratch-is = ap (λ (o : MeasuringOutcome). o.scratch) g

          measured-answer : result_of (measuring_no q d v l original off measured scratch) nothing ≡ read_done z
          unfolding measuring_outcome
          measured-answer = ap (λ (o : MeasuringOutcome). o.answer) g

          pub measuring-stops : (r : Refusal) → z ≡ Err r → out ≡ record { answer = rejected by_measuring (error_code r); tried = t; dst = l; measured = m; scratch = n }
          unfolding agree_by_outcome agree_with
          measuring-stops r s3 = rw (tried-is, zero-first, p, plane-is, zero-second, measured-is, scratch-is, code-of _ r z s3 measured-answer, ne_eqb (error_code r) 0 (coded r)) refl

          pub all-agree : (done3 : Unit {0}) → z ≡ Ok done3 → out ≡ record { answer = agreed; tried = t; dst = l; measured = m; scratch = n }
          unfolding agree_by_outcome agree_with
          all-agree done3 s3 = rw (tried-is, zero-first, p, plane-is, zero-second, measured-is, scratch-is, none-of _ done3 z s3 measured-answer) refl
