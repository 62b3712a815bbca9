-- What a C entry leaves in `out`. Definitions only.
use Rattle.cdef_spec.specs.Answers.{Result, taken, refused}

-- the value where the call is accepted, else the old contents
unfoldable pub value_or : {A : Type 0} → A → Result A → A
value_or old (taken a) = a
value_or old (refused n) = old
