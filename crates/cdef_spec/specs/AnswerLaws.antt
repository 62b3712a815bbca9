-- What a call's answer says of its outcome: the error code of its questions, or its values.
use Rattle.std.specs.Prelude.{◌≡◌, ℕ, Ok, Err}
use Rattle.std.proofs.Common.{sym, ◌∙◌, ne_eqb}
use Rattle.cdef_spec.specs.declared.Refusal.{Refusal}
use Rattle.cdef_spec.specs.declared.Refusal.TheVariants.{Depth, Sides, Subsampling, PlaneLength, Position, Destination, Lengths, Values, Samples}
use Rattle.cdef_spec.specs.Answers.{nothing, refused, result_of, error_code, read, read_done, code_of}

-- no error code is 0
pub coded : (r : Refusal) → error_code r ≡ 0 → ⊥
unfolding error_code
coded Depth e = cc
coded Sides e = cc
coded Subsampling e = cc
coded PlaneLength e = cc
coded Position e = cc
coded Destination e = cc
coded Lengths e = cc
coded Values e = cc
coded Samples e = cc

-- a check that refuses: n, the number of the first question that fails, is its error code, and the call's outcome is that refusal
module _ (B : Type 0) (r : Refusal) (n : ℕ) (e : code_of {A = B} (Err r) ≡ n) where
  pub not-zero : n ≡ 0 → ⊥
  unfolding code_of
  not-zero z = coded r (e ∙ z)

  pub refused-is : {A : Type 0} (a : A) → refused (error_code r) ≡ result_of n a
  unfolding result_of code_of
  refused-is a = rw (← e, ne_eqb (error_code r) 0 (coded r))

  pub read-err : {A : Type 0} (a : A) → read (Err r) ≡ result_of n a
  unfolding read
  read-err a = refused-is a

  pub read_done-err : read_done (Err r) ≡ result_of n nothing
  unfolding read_done
  read_done-err = refused-is nothing

-- a check that passes: no question fails, and the call's outcome is its values
module _ {B : Type 0} (b : B) (n : ℕ) (e : code_of (Ok b) ≡ n) where
  pub zero-so : n ≡ 0
  unfolding code_of
  zero-so = sym e

  pub read-ok : {A : Type 0} (v a : A) → v ≡ a → read (Ok v) ≡ result_of n a
  unfolding read result_of code_of
  read-ok v a h = rw (← e, h)

  pub read_done-ok : (done : Unit {0}) → read_done (Ok done) ≡ result_of n nothing
  unfolding read_done result_of code_of
  read_done-ok done = rw (← e)
