-- The questions of the trial in the parts that the code checks them in. Definitions only.
use Rattle.std.specs.Prelude.{◌&&◌, List, [], ◌∷◌, ℕ, ltb, eqb, length}
use Rattle.cdef_spec.specs.declared.Block.{Block}
use Rattle.cdef_spec.specs.declared.TrialWay.{TrialWay}
use Rattle.cdef_spec.specs.declared.WorkingDamping.{WorkingDamping}
use Rattle.cdef_spec.specs.Document01.{Plane}
use Rattle.cdef_spec.specs.Questions.{Question, ask, depth_taken, side_taken, full, block_taken, way_taken, working_taken}

-- the trial, all but 9
abbrev pub trial_first : Plane → Block → TrialWay → ℕ → WorkingDamping → ℕ → List ℕ → List Question
trial_first p b way dir damping depth out =
    ask 1 (depth_taken depth)
    ∷ ask 2 (side_taken p.width && side_taken p.height)
    ∷ ask 4 (full p)
    ∷ ask 5 (block_taken p b)
    ∷ ask 7 (eqb (length out) 768)
    ∷ ask 8 (ltb dir 8 && (way_taken way && working_taken damping))
    ∷ []
