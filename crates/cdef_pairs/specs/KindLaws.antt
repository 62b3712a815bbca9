-- The two kinds of lists: a slice of pairs, and two lists of strengths. Each keeps the laws, and applying by its tests is applying as defined for it.
use Rattle.std.specs.Prelude.{◌≡◌, refl, Bool, true, false, ◌&&◌, ◌||◌, List, [], ◌∷◌, ℕ, zero, suc, ◌≤◌, leb, eqb, length, Option}
use Rattle.std.proofs.Common.{sym, ◌∙◌, arith, eqb-true, leb-true}
use Rattle.cdef_spec.specs.declared.SignalledDamping.{SignalledDamping}
use Rattle.cdef_spec.specs.declared.UnitPair.{UnitPair}
use Rattle.cdef_spec.specs.WordsLaws.{and_both}
use Rattle.cdef_spec.specs.Picture.{Picture, pair_at}
use Rattle.cdef_spec.specs.Questions.{primary_taken, secondary_taken, pair_taken, all_taken}
use Rattle.cdef_spec.specs.FrameCalls.{applying_outcome, applying_lists_outcome, applying_no, applying_lists_no, pairs_of}
use Rattle.cdef_spec.proofs.OutcomeLaws.{length_pairs, values-pair}
use Rattle.cdef_pairs.specs.Applying.{PairsLaws, Paired, applying_by_no, applying_by_outcome}

-- ---- any list that passes questions 7 and 8

-- a pair that passes question 8
pub pair-low : (p : UnitPair) → pair_taken p ≡ true → (p.primary ≤ 15) × (p.secondary ≤ 4)
unfolding pair_taken primary_taken secondary_taken
pair-low p e =
    let b = and_both _ _ e in
    (leb-true p.primary 15 b.0, secondary-low p.secondary b.1)
  where
    secondary-low : (n : ℕ) → leb n 2 || eqb n 4 ≡ true → n ≤ 4
    secondary-low n h = go (leb n 2) refl
      where
        go : (t : Bool) → leb n 2 ≡ t → n ≤ 4
        go true l = omega (arith, leb-true n 2 l)
        go false l = omega (arith, eqb-true n 4 (rw l at h))

low-all : (ps : List UnitPair) → all_taken pair_taken ps ≡ true → (u : ℕ) → ((pair_at ps u).primary ≤ 15) × ((pair_at ps u).secondary ≤ 4)
unfolding all_taken
low-all [] e u = (omega arith, omega arith)
low-all (p ∷ ps) e zero = pair-low p (and_both (pair_taken p) (all_taken pair_taken ps) e).0
low-all (p ∷ ps) e (suc u) = low-all ps (and_both (pair_taken p) (all_taken pair_taken ps) e).1 u

module _ {S : Type 0} (pairs : S → List UnitPair) (listed : S → ℕ → Bool) (taken : S → Bool) (laws : PairsLaws pairs listed taken) where
  pub paired : (s : S) (n : ℕ) → listed s n ≡ true → taken s ≡ true → Paired n (pairs s)
  paired s n l t = record { long = laws.as-many s n l; low = low-all (pairs s) (sym (laws.taken-is s n l) ∙ t) }

-- ---- a slice of pairs

pub slice-as-many : (ps : List UnitPair) (n : ℕ) → eqb (length ps) n ≡ true → length ps ≡ n
slice-as-many ps n e = eqb-true _ _ e

pub slice-taken : (ps : List UnitPair) → all_taken pair_taken ps ≡ all_taken pair_taken ps
slice-taken ps = refl

-- ---- two lists of strengths

module _ (pris secs : List ℕ) (n : ℕ) (e : eqb (length pris) n && eqb (length secs) n ≡ true) where
  both-long : (length pris ≡ n) × (length secs ≡ n)
  both-long = let b = and_both _ _ e in (eqb-true _ _ b.0, eqb-true _ _ b.1)

  pub lists-as-many : length (pairs_of pris secs) ≡ n
  lists-as-many = length_pairs pris secs ∙ both-long.0

  pub lists-taken : all_taken primary_taken pris && all_taken secondary_taken secs ≡ all_taken pair_taken (pairs_of pris secs)
  lists-taken = values-pair pris secs (both-long.0 ∙ sym both-long.1)

-- ---- applying by each kind's tests

module _ (q : Picture) (d : Option SignalledDamping) (snapshot dst : List ℕ) where
  pub slice-outcome : (ps : List UnitPair) → applying_by_outcome q d snapshot (λ n. eqb (length ps) n) (all_taken pair_taken ps) ps dst ≡ applying_outcome q d snapshot ps dst
  unfolding applying_by_outcome applying_by_no applying_outcome applying_no
  slice-outcome ps = refl

  pub lists-outcome : (pris secs : List ℕ)
      → applying_by_outcome q d snapshot (λ n. eqb (length pris) n && eqb (length secs) n) (all_taken primary_taken pris && all_taken secondary_taken secs) (pairs_of pris secs) dst
      ≡ applying_lists_outcome q d snapshot pris secs dst
  unfolding applying_by_outcome applying_by_no applying_lists_outcome applying_lists_no
  lists-outcome pris secs = refl
