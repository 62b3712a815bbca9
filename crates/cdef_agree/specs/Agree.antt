-- The three calls, one after the other, by their outcomes. Definitions only.
use Rattle.std.specs.Prelude.{Bool, true, false, cond, ◌&&◌, List, ℕ, eqb, ℤ, Ok, Err, Result as RustResult, Option}
use Rattle.cdef_spec.specs.declared.SignalledDamping.{SignalledDamping}
use Rattle.cdef_spec.specs.declared.UnitPair.{UnitPair}
use Rattle.cdef_spec.specs.declared.Visible.{Visible}
use Rattle.cdef_spec.specs.Picture.{Picture}
use Rattle.cdef_spec.specs.FrameCalls.{trying_no, TryingOutcome, trying_outcome, ApplyingOutcome, applying_no, applying_outcome, applying_lists_no, pairs_of, applying_lists_outcome, measuring_no, MeasuringOutcome, measuring_outcome}
use Rattle.cdef_spec.specs.Demand3.{off}
use Rattle.agree_parts.specs.Parts.{trial_pairs, copied}
use Rattle.cdef_spec.specs.Answers.{error_code}
use Rattle.cdef_pairs.specs.Applying.{applying_by_no, applying_by_outcome}
use Rattle.cdef_agree.specs.declared.NotCompared.{NotCompared}
use Rattle.cdef_agree.specs.declared.NotCompared.TheVariants.{NotTrialPairs, Trying, Applying, Measuring}

-- ---- what an agreement means, in the rules' terms (RULES, Questions; RULES, Agreement)

-- who rejected the input: one of the three calls, or the test, between trying and applying, that each pair is one of the twelve
pub data RejectedBy : Type 0 where
  by_trying : RejectedBy
  by_pair_test : RejectedBy
  by_applying : RejectedBy
  by_measuring : RejectedBy

-- the totals agree; or the input was rejected, by whom and with which error code
pub data AgreementResult : Type 0 where
  agreed : AgreementResult
  rejected : RejectedBy → ℕ → AgreementResult

-- case by case. A pair that is none of the twelve is a strength out of range: 8
unfoldable pub read_not_compared : NotCompared → AgreementResult
read_not_compared NotTrialPairs = rejected by_pair_test 8
read_not_compared (Trying r) = rejected by_trying (error_code r)
read_not_compared (Applying r) = rejected by_applying (error_code r)
read_not_compared (Measuring r) = rejected by_measuring (error_code r)

unfoldable pub read_agreement : RustResult (Unit {0}) NotCompared → AgreementResult
read_agreement (Ok done) = agreed
read_agreement (Err d) = read_not_compared d

-- the error code: 0 where the totals agree
unfoldable pub agreement_number : AgreementResult → ℕ
agreement_number agreed = 0
agreement_number (rejected who n) = n

-- the totals agree
unfoldable pub is_agreed : AgreementResult → Bool
is_agreed agreed = true
is_agreed (rejected who n) = false

-- the answer, and every list of the caller's at exit
pub record AgreeOutcome : Type 0 where
  pub answer : AgreementResult
  pub tried : List ℤ
  pub dst : List ℕ
  pub measured : List ℤ
  pub scratch : List ℕ

-- trying; then, with pairs of the twelve, applying to a copy of the snapshot; then measuring what applying left, with pair 0, 0.
-- trial: is each pair one of the twelve; asked and applied: applying's error code, 0 for none, and its outcome, by its destination
unfoldable pub agree_with : Bool → (List ℕ → ℕ) → (List ℕ → ApplyingOutcome) → Picture → Option SignalledDamping → Visible → List ℕ → List ℕ → List ℤ → List ℕ → List ℤ → List ℕ → AgreeOutcome
agree_with trial asked applied q damping v snapshot original tried dst measured scratch =
    let first = eqb (trying_no q damping v snapshot original tried) 0 in
    let t : TryingOutcome = trying_outcome q damping v snapshot original tried in
    let copy = copied snapshot dst in
    let no = asked copy in
    let a : ApplyingOutcome = applied copy in
    let second = first && trial in
    let third = second && eqb no 0 in
    let m : MeasuringOutcome = measuring_outcome q damping v a.plane original off measured scratch in
    let last = measuring_no q damping v a.plane original off measured scratch in
    record {
      answer = cond first (cond trial (cond (eqb no 0) (cond (eqb last 0) agreed (rejected by_measuring last)) (rejected by_applying no)) (rejected by_pair_test 8)) (rejected by_trying (trying_no q damping v snapshot original tried));
      tried = t.totals;
      dst = cond second a.plane dst;
      measured = cond third m.totals measured;
      scratch = cond third m.scratch scratch;
    }

-- any list of pairs, by its own tests of questions 7 and 8
unfoldable pub agree_by_outcome : Picture → Option SignalledDamping → Visible → List ℕ → List ℕ → (ℕ → Bool) → Bool → List UnitPair → List ℤ → List ℕ → List ℤ → List ℕ → AgreeOutcome
agree_by_outcome q damping v snapshot original listed taken ps tried dst measured scratch =
    agree_with (trial_pairs ps) (applying_by_no q damping snapshot listed taken) (applying_by_outcome q damping snapshot listed taken ps) q damping v snapshot original tried dst measured scratch

-- one pair per unit
unfoldable pub agree_outcome : Picture → Option SignalledDamping → Visible → List ℕ → List ℕ → List UnitPair → List ℤ → List ℕ → List ℤ → List ℕ → AgreeOutcome
agree_outcome q damping v snapshot original ps tried dst measured scratch =
    agree_with (trial_pairs ps) (applying_no q damping snapshot ps) (applying_outcome q damping snapshot ps) q damping v snapshot original tried dst measured scratch

-- the twin with two plain lists, a primary and a secondary strength per unit
unfoldable pub agree_lists_outcome : Picture → Option SignalledDamping → Visible → List ℕ → List ℕ → List ℕ → List ℕ → List ℤ → List ℕ → List ℤ → List ℕ → AgreeOutcome
agree_lists_outcome q damping v snapshot original pris secs tried dst measured scratch =
    agree_with (trial_pairs (pairs_of pris secs)) (applying_lists_no q damping snapshot pris secs) (applying_lists_outcome q damping snapshot pris secs) q damping v snapshot original tried dst measured scratch
