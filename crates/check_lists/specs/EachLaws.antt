-- A test of each entry of a list, one after the other: it passes where every entry does.
use Rattle.std.specs.Prelude.{◌≡◌, refl, Bool, true, false, List, [], ◌∷◌, zero, suc, IsTrue}
use Rattle.std.specs.List.{AllPass}
use Rattle.std.proofs.Common.{sym, arith}
use Rattle.cdef_spec.specs.WordsLaws.{and_both, and-make}
use Rattle.cdef_spec.specs.Questions.{all_taken}

module _ {A : Type 0} (f : A → Bool) where
  taken-each : (xs : List A) → all_taken f xs ≡ true → AllPass f xs
  unfolding all_taken
  taken-each [] e k d h = absurd (omega arith)
  taken-each (x ∷ xs) e zero d h = (and_both (f x) (all_taken f xs) e).0
  taken-each (x ∷ xs) e (suc k) d h = taken-each xs (and_both (f x) (all_taken f xs) e).1 k d (omega arith)

  each-taken : (xs : List A) → AllPass f xs → all_taken f xs ≡ true
  unfolding all_taken
  each-taken [] h = refl
  each-taken (x ∷ xs) h = and-make (h 0 x (omega arith)) (each-taken xs (λ k d l. h (suc k) d (omega arith)))

  pub all-taken : (r : Bool) (xs : List A) → (IsTrue r → AllPass f xs) → (AllPass f xs → IsTrue r) → r ≡ all_taken f xs
  all-taken true xs h g = sym (each-taken xs (h refl))
  all-taken false xs h g = go (all_taken f xs) refl
    where
      go : (b : Bool) → all_taken f xs ≡ b → false ≡ b
      go false e = refl
      go true e = g (taken-each xs e)
