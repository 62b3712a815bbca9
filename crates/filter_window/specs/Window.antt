-- The window of a block: 12 by 12 entries, counted from two above and two left of it. Definitions only.
use Rattle.std.specs.Prelude.{cond, ◌&&◌, List, ℕ, ◌+◌, ◌/◌, ◌%◌, ltb}
use Rattle.cdef_spec.specs.declared.Block.{Block}
use Rattle.cdef_spec.specs.Document01.{Plane}
use Rattle.cdef_spec.specs.CodeForm.{sample_at}

-- the plane that a call receives
abbrev pub plane_of : List ℕ → ℕ → ℕ → Plane
plane_of s w h = record { samples = s; width = w; height = h }

-- entry k: row k / 12 and column k % 12. An examined sample (the block widened by 2, cropped to the plane), or the mark
unfoldable pub window_at : Plane → Block → ℕ → ℕ
window_at p b k = cond (ltb (k / 12) (b.height + 4) && ltb (k % 12) (b.width + 4)) (sample_at p (b.y + k / 12) (b.x + k % 12)) 16384
