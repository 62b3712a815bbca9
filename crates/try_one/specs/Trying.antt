-- Terms of trying: the distances, and the totals block by block. Definitions only.
use Rattle.std.specs.Prelude.{List, ℕ, ◌*◌, replicate}
use Rattle.cdef_spec.specs.declared.SignalledDamping.{SignalledDamping}
use Rattle.cdef_spec.specs.declared.Visible.{Visible}
use Rattle.cdef_spec.specs.Document01.{mark, or_else, trial_pair}
use Rattle.cdef_spec.specs.Picture.{Picture, units, at_place, filtered_by, block_distance}
use Rattle.cdef_spec.specs.LoopForm.{try_row, try_rows}
use Rattle.frame_shape.specs.declared.inputs.CompareInput.{CompareInput}
use Rattle.frame_shape.specs.Checked.{compare_in}

-- what a block adds to the total of trial t
unfoldable pub tried_distance : Picture → SignalledDamping → Visible → List ℕ → List ℕ → ℕ → ℕ → ℕ → ℕ
tried_distance q d v snapshot original by bx t = block_distance q v by bx (at_place q original) (λ r c. or_else mark (filtered_by q d snapshot (trial_pair t) by bx r c))

-- the totals after m rows of blocks, and after n more blocks of row m
unfoldable pub tried_rows : Picture → SignalledDamping → Visible → List ℕ → List ℕ → ℕ → List ℕ
tried_rows q d v snapshot original m = try_rows q v (tried_distance q d v snapshot original) (replicate (12 * units q) 0) m

unfoldable pub tried_blocks : Picture → SignalledDamping → Visible → List ℕ → List ℕ → ℕ → ℕ → List ℕ
tried_blocks q d v snapshot original m n = try_row q v (tried_distance q d v snapshot original) m (tried_rows q d v snapshot original m) n

-- of a checked input: after m rows of blocks, and after n more blocks of row m
abbrev pub rows_tried : CompareInput → ℕ → List ℕ
rows_tried i m = tried_rows (compare_in i) i.filter.damping i.visible i.filter.plane.samples.now i.original.samples.now m

abbrev pub blocks_tried : CompareInput → ℕ → ℕ → List ℕ
blocks_tried i m n = tried_blocks (compare_in i) i.filter.damping i.visible i.filter.plane.samples.now i.original.samples.now m n
