-- A call whose `?` hands on why a check refused.
use Rattle.std.specs.Prelude.{◌≡◌, Ok, Err, IsErrAnd, Result as RustResult}
use Rattle.cdef_spec.specs.declared.Refusal.{Refusal}
use Rattle.cdef_spec.specs.Answers.{refused, error_code, read_done}

pub told : (r : RustResult (Unit {0}) Refusal) (e : Refusal) → IsErrAnd r (λ x. x ≡ e) → read_done r ≡ refused (error_code e)
unfolding read_done
told (Ok done) e h = absurd h
told (Err x) e h = rw h
