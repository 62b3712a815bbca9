-- Applying with any list of unit pairs: what a kind of list owes, and the outcome by its own tests of questions 7 and 8. Definitions only.
use Rattle.std.specs.Prelude.{◌≡◌, Bool, true, cond, List, [], ◌∷◌, ℕ, ◌≤◌, eqb, length, Option}
use Rattle.cdef_spec.specs.declared.SignalledDamping.{SignalledDamping}
use Rattle.cdef_spec.specs.declared.UnitPair.{UnitPair}
use Rattle.cdef_spec.specs.Document01.{in_force}
use Rattle.cdef_spec.specs.Picture.{Picture, units, pair_at, applied_plane}
use Rattle.cdef_spec.specs.Answers.{nothing, result_of}
use Rattle.cdef_spec.specs.Questions.{first_no, pair_taken, all_taken}
use Rattle.cdef_spec.specs.FrameCalls.{questions, ApplyingOutcome}

-- pairs: the pair of each unit; listed: question 7, for a number of units; taken: question 8. The laws do not say which lists are listed: that is read at each kind
pub record PairsLaws {S : Type 0} (pairs : S → List UnitPair) (listed : S → ℕ → Bool) (taken : S → Bool) : Type 0 where
  pub as-many : (s : S) (n : ℕ) → listed s n ≡ true → length (pairs s) ≡ n
  pub taken-is : (s : S) (n : ℕ) → listed s n ≡ true → taken s ≡ all_taken pair_taken (pairs s)

-- a pair for each of n units, primaries at most 15 and secondaries at most 4
pub record Paired (n : ℕ) (ps : List UnitPair) : Type 0 where
  pub long : length ps ≡ n
  pub low : (u : ℕ) → ((pair_at ps u).primary ≤ 15) × ((pair_at ps u).secondary ≤ 4)

-- the error code of applying, and its outcome, with the list's own tests
unfoldable pub applying_by_no : Picture → Option SignalledDamping → List ℕ → (ℕ → Bool) → Bool → List ℕ → ℕ
applying_by_no q damping snapshot listed taken dst =
    first_no (questions q (in_force damping) (snapshot ∷ dst ∷ []) (listed (units q)) taken (snapshot ∷ []))

unfoldable pub applying_by_outcome : Picture → Option SignalledDamping → List ℕ → (ℕ → Bool) → Bool → List UnitPair → List ℕ → ApplyingOutcome
applying_by_outcome q damping snapshot listed taken ps dst =
    let no = applying_by_no q damping snapshot listed taken dst in
    record { answer = result_of no nothing; plane = cond (eqb no 0) (applied_plane q (in_force damping) snapshot ps dst) dst }
