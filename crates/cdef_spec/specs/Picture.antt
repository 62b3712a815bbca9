-- RULES, Frame: the geometry of blocks and units in luma and in each chroma layout, counted blocks, unit totals of trying and measuring, the applied plane. Definitions only.
use Rattle.std.specs.Prelude.{ℕ, ◌+◌, ◌-◌, ◌*◌, ◌/◌, ◌%◌, ◌^◌, min, Bool, cond, not, ◌&&◌, List, ltb, eqb, get_or}
use Rattle.cdef_spec.specs.declared.SignalledDamping.{SignalledDamping}
use Rattle.cdef_spec.specs.declared.UnitPair.{UnitPair}
use Rattle.cdef_spec.specs.declared.Visible.{Visible}
use Rattle.cdef_spec.specs.declared.FilterParams.{FilterParams}
use Rattle.cdef_spec.specs.Words.{◌>>◌, sum2, table}
use Rattle.cdef_spec.specs.Standard.{Tap, chroma_direction}
use Rattle.cdef_spec.specs.Document01.{Plane, mark, or_else, filtered, luma_damping, chroma_damping, trial_pair, luma_params, chroma_params}
use Rattle.cdef_spec.specs.Distance.{squares, weighted_distance}

-- ---- a picture's plane

-- luma, with one variance per block; or chroma, with its layout: the two subsampling flags, horizontal and vertical
pub data PlaneKind : Type 0 where
  luma : List ℕ → PlaneKind
  chroma : ℕ → ℕ → PlaneKind

-- what the frame calls share. Width and height are luma's; per block a skip flag, 1 where the block is skipped, and luma's direction, for a chroma plane too.
-- Passed separately (RULES, Glossary): the snapshot, the plane before filtering, and the original, the plane that distances compare with
pub record Picture : Type 0 where
  pub kind : PlaneKind
  pub depth : ℕ
  pub width : ℕ
  pub height : ℕ
  pub skip : List ℕ
  pub dirs : List ℕ

-- as the luma and the chroma calls receive it
abbrev pub luma_picture : ℕ → ℕ → ℕ → List ℕ → List ℕ → List ℕ → Picture
luma_picture depth width height skip dirs vars = record { kind = luma vars; depth = depth; width = width; height = height; skip = skip; dirs = dirs }

abbrev pub chroma_picture : ℕ → ℕ → ℕ → ℕ → ℕ → List ℕ → List ℕ → Picture
chroma_picture depth width height sx sy skip dirs = record { kind = chroma sx sy; depth = depth; width = width; height = height; skip = skip; dirs = dirs }

-- the subsampling flags of a plane
unfoldable pub sub_x : PlaneKind → ℕ
sub_x (luma vars) = 0
sub_x (chroma sx sy) = sx

unfoldable pub sub_y : PlaneKind → ℕ
sub_y (luma vars) = 0
sub_y (chroma sx sy) = sy

-- the plane's sides, and those of the part of it that belongs to an 8 by 8 luma block
unfoldable pub plane_width : Picture → ℕ
plane_width q = q.width >> sub_x q.kind

unfoldable pub plane_height : Picture → ℕ
plane_height q = q.height >> sub_y q.kind

unfoldable pub block_width : Picture → ℕ
block_width q = 8 >> sub_x q.kind

unfoldable pub block_height : Picture → ℕ
block_height q = 8 >> sub_y q.kind

-- the number of blocks in a row of blocks, and in a column of them
abbrev pub block_cols : Picture → ℕ
block_cols q = q.width / 8

abbrev pub block_rows : Picture → ℕ
block_rows q = q.height / 8

-- a unit (RULES, Glossary) is a 64 by 64 luma square counted from the top left, cropped to the picture; in chroma, the samples of the same area
abbrev pub unit_cols : Picture → ℕ
unit_cols q = (q.width + 63) / 64

abbrev pub unit_rows : Picture → ℕ
unit_rows q = (q.height + 63) / 64

unfoldable pub units : Picture → ℕ
units q = unit_rows q * unit_cols q

-- the index of the block in row by and column bx of the blocks, and that of its unit
abbrev pub block_at : Picture → ℕ → ℕ → ℕ
block_at q by bx = by * block_cols q + bx

unfoldable pub unit_at : Picture → ℕ → ℕ → ℕ
unit_at q by bx = by / 8 * unit_cols q + bx / 8

-- the sample at row r and column c
unfoldable pub at_place : Picture → List ℕ → ℕ → ℕ → ℕ
at_place q s r c = get_or s (r * plane_width q + c) 0

abbrev pub plane_of : Picture → List ℕ → Plane
plane_of q s = record { samples = s; width = plane_width q; height = plane_height q }

-- ---- filtering a block with a pair

-- signalled is the figure in force, b the block's index
unfoldable pub params_for : PlaneKind → ℕ → List ℕ → SignalledDamping → UnitPair → ℕ → FilterParams
params_for (luma vars) depth dirs signalled p b = luma_params depth p (get_or vars b 0) (get_or dirs b 0) (luma_damping signalled depth)
params_for (chroma sx sy) depth dirs signalled p b = chroma_params depth p (chroma_direction sx sy (get_or dirs b 0)) (chroma_damping signalled depth)

-- the sample at (r, c) of the block (by, bx), filtered with a pair. Every tap reads the snapshot
unfoldable pub filtered_by : Picture → SignalledDamping → List ℕ → UnitPair → ℕ → ℕ → ℕ → ℕ → Tap
filtered_by q signalled snapshot p by bx r c = filtered (plane_of q snapshot) (params_for q.kind q.depth q.dirs signalled p (block_at q by bx)) r c

-- ---- the distance of a block

-- the weighted distance for a whole luma block; plain squares (SSE) over the visible part for a cropped one and for chroma
unfoldable pub distance_of : PlaneKind → ℕ → ℕ → ℕ → (ℕ → ℕ → ℕ) → (ℕ → ℕ → ℕ) → ℕ
distance_of (luma vars) depth rows cols o d = cond (eqb rows 8 && eqb cols 8) (weighted_distance depth o d) (squares rows cols o d)
distance_of (chroma sx sy) depth rows cols o d = squares rows cols o d

-- a visible side in the plane's own samples, rounded up when subsampled
unfoldable pub visible_cols : Picture → Visible → ℕ
visible_cols q v = (v.width + (2 ^ sub_x q.kind - 1)) >> sub_x q.kind

unfoldable pub visible_rows : Picture → Visible → ℕ
visible_rows q v = (v.height + (2 ^ sub_y q.kind - 1)) >> sub_y q.kind

-- the distance of the visible part of the block (by, bx) between an original o and another plane d, both by row and column
unfoldable pub block_distance : Picture → Visible → ℕ → ℕ → (ℕ → ℕ → ℕ) → (ℕ → ℕ → ℕ) → ℕ
block_distance q v by bx o d =
    let y = by * block_height q in
    let x = bx * block_width q in
    distance_of q.kind q.depth (min (block_height q) (visible_rows q v - y)) (min (block_width q) (visible_cols q v - x))
    (λ i j. o (y + i) (x + j)) (λ i j. d (y + i) (x + j))

-- ---- unit totals

-- a counted block (RULES, Glossary) begins inside the visible area and is not skipped
unfoldable pub counted : Picture → Visible → ℕ → ℕ → Bool
counted q v by bx = eqb (get_or q.skip (block_at q by bx) 0) 0 && (ltb (by * block_height q) (visible_rows q v) && ltb (bx * block_width q) (visible_cols q v))

-- the sum of a distance over the counted blocks of unit u; 0 where none counts
unfoldable pub unit_total : Picture → Visible → ℕ → (ℕ → ℕ → ℕ) → ℕ
unit_total q v u distance = sum2 (block_rows q) (block_cols q) (λ by bx. cond (eqb (unit_at q by bx) u && counted q v by bx) (distance by bx) 0)

-- trying: unit u, trial t, between the original and the trial block
unfoldable pub tried_total : Picture → SignalledDamping → Visible → List ℕ → List ℕ → ℕ → ℕ → ℕ
tried_total q signalled v snapshot original u t = unit_total q v u (λ by bx. block_distance q v by bx (at_place q original) (λ r c. or_else mark (filtered_by q signalled snapshot (trial_pair t) by bx r c)))

-- the pair 0, 0
abbrev pub is_off : UnitPair → Bool
is_off p = eqb p.primary 0 && eqb p.secondary 0

-- measuring: unit u, one pair for all units; with 0, 0 the plane unfiltered
unfoldable pub measured_total : Picture → SignalledDamping → Visible → List ℕ → List ℕ → UnitPair → ℕ → ℕ
measured_total q signalled v plane original p u = unit_total q v u (λ by bx. block_distance q v by bx (at_place q original) (λ r c. cond (is_off p) (at_place q plane r c) (or_else mark (filtered_by q signalled plane p by bx r c))))

-- ---- the applied plane

-- the pair of unit u
abbrev pub pair_at : List UnitPair → ℕ → UnitPair
pair_at ps u = get_or ps u (record { primary = 0; secondary = 0 })

-- a skipped block is not written, nor is any block of a unit whose pair is 0, 0
unfoldable pub written : Picture → List UnitPair → ℕ → ℕ → Bool
written q ps by bx = eqb (get_or q.skip (block_at q by bx) 0) 0 && not (is_off (pair_at ps (unit_at q by bx)))

-- what applying leaves at row r and column c of a destination
unfoldable pub applied_at : Picture → SignalledDamping → List ℕ → List UnitPair → List ℕ → ℕ → ℕ → ℕ
applied_at q signalled snapshot ps dst r c =
    let by = r / block_height q in
    let bx = c / block_width q in
    cond (written q ps by bx) (or_else (at_place q dst r c) (filtered_by q signalled snapshot (pair_at ps (unit_at q by bx)) by bx r c)) (at_place q dst r c)

-- the plane whose sample at row r and column c is f r c
unfoldable pub plane_from : Picture → (ℕ → ℕ → ℕ) → List ℕ
plane_from q f = table (plane_width q * plane_height q) (λ k. f (k / plane_width q) (k % plane_width q))

-- the whole plane that applying leaves
unfoldable pub applied_plane : Picture → SignalledDamping → List ℕ → List UnitPair → List ℕ → List ℕ
applied_plane q signalled snapshot ps dst = plane_from q (applied_at q signalled snapshot ps dst)
