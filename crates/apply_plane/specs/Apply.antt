-- What applying leaves block by block, in the code's form. Definitions only.
use Rattle.std.specs.Prelude.{List, ℕ}
use Rattle.cdef_spec.specs.declared.SignalledDamping.{SignalledDamping}
use Rattle.cdef_spec.specs.declared.UnitPair.{UnitPair}
use Rattle.cdef_spec.specs.Picture.{Picture, unit_at, pair_at, written, filtered_by}
use Rattle.cdef_spec.specs.LoopForm.{apply_row, apply_rows}

-- n blocks of the row by of blocks, then m rows of blocks
unfoldable pub row_applied : Picture → SignalledDamping → List ℕ → List UnitPair → ℕ → List ℕ → ℕ → List ℕ
row_applied q d snapshot ps by dst n = apply_row q (written q ps) (λ by bx. filtered_by q d snapshot (pair_at ps (unit_at q by bx)) by bx) by dst n

unfoldable pub rows_applied : Picture → SignalledDamping → List ℕ → List UnitPair → List ℕ → ℕ → List ℕ
rows_applied q d snapshot ps dst m = apply_rows q (written q ps) (λ by bx. filtered_by q d snapshot (pair_at ps (unit_at q by bx)) by bx) dst m
