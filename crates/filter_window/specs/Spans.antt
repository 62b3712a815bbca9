-- What the window's functions receive: a block that begins in its plane, the rows or columns that are examined; and what they have filled. Definitions only.
use Rattle.std.specs.Prelude.{◌≡◌, ◌⊎◌, List, ℕ, ◌+◌, ◌-◌, ◌*◌, ◌≤◌, ◌<◌, min, length, get_or}
use Rattle.cdef_spec.specs.declared.Block.{Block}
use Rattle.cdef_spec.specs.declared.full.FullPlane.{FullPlane}
use Rattle.cdef_spec.specs.Document01.{Plane}
use Rattle.filter_window.specs.declared.Span.{Span}
use Rattle.filter_window.specs.Window.{window_at}

-- a plane of sides up to 4,096, a block of sides up to 8 that begins in it
pub record InPlane (s : List ℕ) (w h : ℕ) (b : Block) : Type 0 where
  pub full : length s ≡ w * h
  pub wide : w ≤ 4096
  pub high : h ≤ 4096
  pub x-in : b.x < w
  pub y-in : b.y < h
  pub bw : b.width ≤ 8
  pub bh : b.height ≤ 8

-- a block of sides up to 8 that begins in a plane
pub record BeginsIn (p : FullPlane) (b : Block) : Type 0 where
  pub x-in : b.x < p.width
  pub y-in : b.y < p.height
  pub bw : b.width ≤ 8
  pub bh : b.height ≤ 8

-- a block four or eight wide, two samples or more inside a plane w by h
pub record Inside (w h : ℕ) (b : Block) : Type 0 where
  pub width : (b.width ≡ 4) ⊎ (b.width ≡ 8)
  pub left : 2 ≤ b.x
  pub top : 2 ≤ b.y
  pub right : b.x + b.width + 2 ≤ w
  pub bottom : b.y + b.height + 2 ≤ h

-- the window's rows or columns that are examined, from lo on and below hi: of a block at `at` with a side of n, in a plane with a side of m
pub record SpanOf (at n m : ℕ) (r : Span) : Type 0 where
  pub from : r.lo ≡ 2 - at
  pub to : r.hi ≡ min (n + 4) (m + 2 - at)

-- the first n entries are the window's, the rest marks
pub record Filled (p : Plane) (b : Block) (n : ℕ) (out : List ℕ) : Type 0 where
  pub long : length out ≡ 144
  pub done : (k : ℕ) → k < n → get_or out k 0 ≡ window_at p b k
  pub rest : (k : ℕ) → n ≤ k → k < 144 → get_or out k 0 ≡ 16384
