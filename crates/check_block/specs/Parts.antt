-- The questions of a call in the parts that the code checks them in. Definitions only.
use Rattle.std.specs.Prelude.{◌&&◌, List, [], ◌∷◌, ℕ}
use Rattle.cdef_spec.specs.declared.Block.{Block}
use Rattle.cdef_spec.specs.declared.FilterParams.{FilterParams}
use Rattle.cdef_spec.specs.Document01.{Plane}
use Rattle.cdef_spec.specs.Questions.{Question, ask, depth_taken, side_taken, full, block_taken, rows_taken, params_taken}

-- 1, 2 and 4
abbrev pub plane_first : Plane → ℕ → List Question
plane_first p depth = ask 1 (depth_taken depth) ∷ ask 2 (side_taken p.width && side_taken p.height) ∷ ask 4 (full p) ∷ []

-- the block filter, all but 9
abbrev pub filter_first : Plane → Block → FilterParams → ℕ → List ℕ → List Question
filter_first p b q y0 dst =
    ask 1 (depth_taken q.depth)
    ∷ ask 2 (side_taken p.width && side_taken p.height)
    ∷ ask 4 (full p)
    ∷ ask 5 (block_taken p b)
    ∷ ask 6 (rows_taken p b y0 dst)
    ∷ ask 8 (params_taken q)
    ∷ []
