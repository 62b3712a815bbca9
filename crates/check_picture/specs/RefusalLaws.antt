-- A refused part is the refusal of its call; a passed one leaves the call's refusal to the parts that follow; where all pass, the call is done.
use Rattle.std.specs.Prelude.{◌≡◌, ℕ, Ok, Err, Result as RustResult}
use Rattle.std.proofs.Common.{sym}
use Rattle.cdef_spec.specs.declared.Refusal.{Refusal}
use Rattle.cdef_spec.specs.Answers.{error_code, code_of, read_done, result_of, nothing}
use Rattle.cdef_spec.specs.AnswerLaws.{coded, read_done-ok}

-- n is the number of the part's first failed question, m the call's
module _ (B : Type 0) {C : Type 0} (n m : ℕ) where
  pub refused-by : (r : Refusal) (x : RustResult C Refusal) → x ≡ Err r → code_of {A = B} (Err r) ≡ n → ((k : ℕ) → k ≡ n → (k ≡ 0 → ⊥) → k ≡ m) → code_of x ≡ m
  unfolding code_of
  refused-by r x e h stops = rw e (stops (error_code r) h (coded r))

pub accepted : {B : Type 0} (b : B) (n : ℕ) → n ≡ 0 → code_of (Ok b) ≡ n
unfolding code_of
accepted b n z = sym z

-- the outcome of a call that is done
pub done-is : (done : Unit {0}) (n : ℕ) → n ≡ 0 → read_done (Ok done) ≡ result_of n nothing
unfolding code_of
done-is done n z = read_done-ok {B = Unit {0}} done n (sym z) done
