-- What a picture that passed the checks satisfies. Definitions only.
use Rattle.std.specs.Prelude.{◌≡◌, Bool, true, false, ℕ, ◌*◌, ◌^◌, ◌≤◌, ◌<◌, get_or, length}
use Rattle.cdef_spec.specs.declared.SignalledDamping.{SignalledDamping}
use Rattle.cdef_spec.specs.declared.Visible.{Visible}
use Rattle.cdef_spec.specs.Document01.{Plane}
use Rattle.cdef_spec.specs.Picture.{PlaneKind, luma, chroma, Picture, plane_width, plane_height, block_rows, block_cols}
use Rattle.cdef_spec.specs.Questions.{luma_side_taken, flags_taken, variances_listed}

-- questions 1, 2 and 3
pub record Shaped (q : Picture) : Type 0 where
  pub deep : 8 ≤ q.depth
  pub flat : q.depth ≤ 12
  pub wide : luma_side_taken q.width ≡ true
  pub high : luma_side_taken q.height ≡ true
  pub flags : flags_taken q.kind ≡ true

-- the number of blocks
abbrev pub blocks : Picture → ℕ
blocks q = block_rows q * block_cols q

-- per block a flag, a direction and, in luma, a variance
pub record Listed (q : Picture) : Type 0 where
  pub skip-long : length q.skip ≡ blocks q
  pub dirs-long : length q.dirs ≡ blocks q
  pub vars-long : variances_listed q.kind (blocks q) ≡ true
  pub dirs-low : (b : ℕ) → get_or q.dirs b 0 < 8

-- block b has a variance, which only luma needs
abbrev pub HasVariance : PlaneKind → ℕ → Type 0
HasVariance (luma vars) b = b < length vars
HasVariance (chroma sx sy) b = Unit {0}

-- block b has what its filter parameters are made of
pub record HasParams (q : Picture) (b : ℕ) : Type 0 where
  pub here : b < length q.dirs
  pub low : get_or q.dirs b 0 < 8
  pub varies : HasVariance q.kind b

-- a plane's samples, by the picture's depth and the plane's sides
pub record Sampled (q : Picture) (p : Plane) : Type 0 where
  pub wide : p.width ≡ plane_width q
  pub high : p.height ≡ plane_height q
  pub long : length p.samples ≡ plane_width q * plane_height q
  pub low : (k : ℕ) → get_or p.samples k 0 < 2 ^ q.depth

-- the visible size
pub record Seen (q : Picture) (v : Visible) : Type 0 where
  pub wide : v.width ≤ q.width
  pub high : v.height ≤ q.height

-- the figure in force
pub record InForce (d : SignalledDamping) : Type 0 where
  pub least : 3 ≤ d.0
  pub most : d.0 ≤ 6

-- whether a plane is luma
unfoldable pub is_luma : PlaneKind → Bool
is_luma (luma vars) = true
is_luma (chroma sx sy) = false
