-- What an entry returns and leaves, by the call's outcome.
use mathlib.Core.Path.{◌≡◌, refl}
use Prim.Native.Nat.{ℕ}
use Rattle.cdef_spec.specs.Answers.{Result, taken, refused, number_of}
use Rattle.cdef_c.specs.Values.{value_or}

pub done : {A : Type 0} (o : Result A) (old a : A) → taken a ≡ o → (0 ≡ number_of o) × (a ≡ value_or old o)
unfolding number_of value_or
done o old a e = rw (← e) (refl, refl)

pub not_done : {A : Type 0} (o : Result A) (old : A) (n : ℕ) → refused n ≡ o → (n ≡ number_of o) × (old ≡ value_or old o)
unfolding number_of value_or
not_done o old n e = rw (← e) (refl, refl)
