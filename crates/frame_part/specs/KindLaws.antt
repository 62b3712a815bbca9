-- The distance of the visible part of a block, by the plane's kind.
use Rattle.std.specs.Bool.{then_some}
use Rattle.std.specs.Prelude.{◌≡◌, true, false, [], ℕ}
use Rattle.cdef_spec.specs.Distance.{constants_of}
use Rattle.cdef_spec.specs.Picture.{PlaneKind, luma, chroma, distance_of}
use Rattle.distance_visible.specs.Cut.{cut_distance}
use Rattle.distance_visible.specs.CutLaws.{cut-is}
use Rattle.frame_shape.specs.Shape.{is_luma}

pub cut-kind : (k : PlaneKind) (depth rows cols : ℕ) (o d : ℕ → ℕ → ℕ) → cut_distance (then_some (is_luma k) (constants_of depth)) rows cols o d ≡ distance_of k depth rows cols o d
unfolding is_luma
cut-kind (luma vars) depth rows cols o d = cut-is true vars 0 0 depth rows cols o d
cut-kind (chroma sx sy) depth rows cols o d = cut-is false [] sx sy depth rows cols o d
