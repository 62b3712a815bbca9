-- A damping out of text, by its letter and its number.
use Rattle.std.specs.Prelude.{◌≡◌, refl, Bool, true, false, cond, List, [], ◌∷◌, ℕ, ◌≤◌, min, length, eqb, Option, Some, None, Ok, Err, MatchResult, Result as RustResult}
use Rattle.std.specs.Result.{IsErrAnd}
use Rattle.std.proofs.Common.{ap, arith, ne_eqb}
use Rattle.cdef_spec.specs.declared.SignalledDamping.{SignalledDamping}
use Rattle.cdef_spec.specs.declared.Refusal.{Refusal}
use Rattle.cdef_spec.specs.Answers.{taken, read}
use Rattle.cdef_spec.specs.BlockCalls.{damping_outcome}
use Rattle.still_text.specs.Text.{digit_count, decimal, most, number_of}
use Rattle.still_steps.specs.declared.damping.DampingError.{DampingError}
use Rattle.still_steps.specs.declared.damping.DampingError.TheVariants.{Rejected}
use Rattle.still_steps.specs.Damping.{damping_of, read_text}

pub no_letter : (s : List ℕ) → length s ≡ 0 → None ≡ damping_of s
unfolding damping_of
no_letter [] h = refl
no_letter (b ∷ s) h = absurd (omega arith)

module _ (s : List ℕ) (letter : ℕ) (rest : List ℕ) (e : s ≡ letter ∷ rest) where
  pub no_number : None ≡ number_of rest → None ≡ damping_of s
  unfolding damping_of
  no_number m = rw (e, ← m) refl

  module _ (n : ℕ) (m : Some n ≡ number_of rest) where
    pub quality_index : letter ≡ 113 → Some (damping_outcome n) ≡ damping_of s
    unfolding damping_of
    quality_index l = rw (e, ← m, l) refl

    pub signalled : letter ≡ 100 → Some (taken (record { 0 = min n 255 })) ≡ damping_of s
    unfolding damping_of
    signalled l = rw (e, ← m, l) refl

    pub other_letter : (letter ≡ 113 → ⊥) → (letter ≡ 100 → ⊥) → None ≡ damping_of s
    unfolding damping_of
    other_letter k l = rw (e, ← m, ne_eqb letter 113 k, ne_eqb letter 100 l) refl

-- ---- a number out of text fits a u32

value_or : Option ℕ → ℕ
value_or None = 0
value_or (Some n) = n

pub value_low : (s : List ℕ) (n : ℕ) → Some n ≡ number_of s → n ≤ most
unfolding number_of value_or
value_low s n e = rw (← ap value_or e) at (go (eqb (digit_count s) 0) (eqb (digit_count s) (length s)) (decimal 0 s))
  where
    go : (a b : Bool) (d : ℕ) → value_or (cond a None (cond b (Some (min most d)) None)) ≤ most
    go true b d = omega arith
    go false true d = omega arith
    go false false d = omega arith

-- the answer of the call for a quality index, as what was read
pub mapped : (a : RustResult SignalledDamping Refusal) (r : RustResult SignalledDamping DampingError) → MatchResult a (λ x. r ≡ Ok x) (λ e. IsErrAnd r (λ d. d ≡ Rejected e)) → read_text r ≡ Some (read a)
unfolding read_text read
mapped (Ok d) r h = rw h refl
mapped (Err e) (Ok d) h = absurd h
mapped (Err e) (Err x) h = rw h refl
