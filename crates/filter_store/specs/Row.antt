-- A row of a block, as it is stored. Definitions only.
use Rattle.std.specs.Prelude.{ℕ, ◌-◌, List, get_or}
use Rattle.cdef_spec.specs.Standard.{Tap}
use Rattle.cdef_spec.specs.Document01.{unmarked}

-- a row of eight samples, from column x on
unfoldable pub row_tap : List ℕ → ℕ → ℕ → ℕ → Tap
row_tap row x r c = unmarked (get_or row (c - x) 0)
