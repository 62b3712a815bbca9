-- What a C entry returns and leaves of a value inside the call's own.
use Rattle.std.specs.Prelude.{◌≡◌, refl, ℕ, Ok, Err, MatchResult, IsOkAnd, Result as RustResult}
use Rattle.cdef_spec.specs.declared.Refusal.{Refusal}
use Rattle.cdef_spec.specs.Answers.{number_of, read}
use Rattle.cdef_c.specs.Values.{value_or}

-- m is the answer a with `pick` of its value; `seen` has the old number
module _ {A : Type 0} (pick : A → ℕ) (a : RustResult A Refusal) (m : RustResult ℕ Refusal) (P : A → ℕ → Type 0) (says : (x : A) (y : ℕ) → P x y → y ≡ pick x) where
  pub mapped-code : MatchResult a (λ x. IsOkAnd m (P x)) (λ e. m ≡ Err e) → number_of (read m) ≡ number_of (read a)
  unfolding number_of read
  mapped-code h = go a m h
    where
      go : (a : RustResult A Refusal) (m : RustResult ℕ Refusal) → MatchResult a (λ x. IsOkAnd m (P x)) (λ e. m ≡ Err e) → number_of (read m) ≡ number_of (read a)
      go (Ok x) (Ok y) h = refl
      go (Ok x) (Err e) h = absurd h
      go (Err e) m h = rw h

  pub mapped-value : (seen : A) → MatchResult a (λ x. IsOkAnd m (P x)) (λ e. m ≡ Err e) → value_or (pick seen) (read m) ≡ pick (value_or seen (read a))
  unfolding value_or read
  mapped-value seen h = go a m h
    where
      go : (a : RustResult A Refusal) (m : RustResult ℕ Refusal) → MatchResult a (λ x. IsOkAnd m (P x)) (λ e. m ≡ Err e) → value_or (pick seen) (read m) ≡ pick (value_or seen (read a))
      go (Ok x) (Ok y) h = says x y h
      go (Ok x) (Err e) h = absurd h
      go (Err e) m h = rw h
