-- A damping out of text. Definitions only.
use Rattle.std.specs.Prelude.{ℕ, min, cond, List, [], ◌∷◌, eqb, Option, Some, None, Ok, Err, Result as RustResult}
use Rattle.cdef_spec.specs.declared.SignalledDamping.{SignalledDamping}
use Rattle.cdef_spec.specs.Answers.{Result, taken, refused, error_code}
use Rattle.cdef_spec.specs.BlockCalls.{damping_outcome}
use Rattle.still_text.specs.Text.{number_of}
use Rattle.still_steps.specs.declared.damping.DampingError.{DampingError}
use Rattle.still_steps.specs.declared.damping.DampingError.TheVariants.{Rejected, NotDamping}

-- what a letter says of a number: q (113) a quality index, whose call decides; d (100) a signalled damping, where more than 255 counts as 255, which question 8 rejects; else nothing
abbrev pub lettered : ℕ → Option ℕ → Option (Result SignalledDamping)
lettered letter None = None
lettered letter (Some n) =
    cond (eqb letter 113) (Some (damping_outcome n))
    (cond (eqb letter 100) (Some (taken (record { 0 = min n 255 }))) None)

-- q and a quality index, or d and a signalled damping
unfoldable pub damping_of : List ℕ → Option (Result SignalledDamping)
damping_of [] = None
damping_of (letter ∷ s) = lettered letter (number_of s)

-- what was read: a damping, or the error code with which the call for a quality index rejected it; or nothing
unfoldable pub read_text : RustResult SignalledDamping DampingError → Option (Result SignalledDamping)
read_text (Ok d) = Some (taken d)
read_text (Err (Rejected r)) = Some (refused (error_code r))
read_text (Err NotDamping) = None
