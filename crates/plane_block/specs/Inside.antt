-- Blocks two samples or more inside a plane. Definitions only.
use Rattle.std.specs.Prelude.{◌≡◌, ◌⊎◌, List, ℕ, ◌+◌, ◌-◌, ◌≤◌, ◌<◌}
use Rattle.cdef_spec.specs.declared.Block.{Block}
use Rattle.cdef_spec.specs.declared.full.FullPlane.{FullPlane}
use Rattle.cdef_spec.specs.declared.FilterParams.{FilterParams}
use Rattle.cdef_spec.specs.Document01.{filtered}
use Rattle.cdef_spec.specs.LoopForm.{put_block}
use Rattle.cdef_spec.specs.Lent.{plane_in_full}
use Rattle.filter_rows.specs.declared.Strength.{Strength}
use Rattle.plane_rows.specs.Rows.{pri_in, sec_in}

-- ---- a block and its parameters, as they are passed

abbrev pub block_from : ℕ → ℕ → ℕ → ℕ → Block
block_from x y bw bh = record { x = x; y = y; width = bw; height = bh }

abbrev pub params_from : ℕ → ℕ → ℕ → ℕ → ℕ → FilterParams
params_from pri sec dir damping depth = record { pri = pri; sec = sec; dir = dir; damping = record { 0 = damping }; depth = depth }

-- a side of 4 or 8 samples
pub record Sided (n : ℕ) : Type 0 where
  pub side : (n ≡ 4) ⊎ (n ≡ 8)

-- two samples or more inside a plane w by h
pub record Inner (w h x y bw bh : ℕ) : Type 0 where
  pub left : 2 ≤ x
  pub top : 2 ≤ y
  pub right : x + bw + 2 ≤ w
  pub bottom : y + bh + 2 ≤ h

-- depth 8, both strengths in its range and not 0, and shifts by which a byte can be shifted
pub record Bytes (depth s sh s2 sh2 : ℕ) : Type 0 where
  pub deep : depth ≡ 8
  pub pri : s ≤ 15
  pub some : 1 ≤ s
  pub pri-shift : sh < 8
  pub sec : s2 ≤ 4
  pub some2 : 1 ≤ s2
  pub sec-shift : sh2 < 8

-- strengths whose weights are the filter's: near and 6 - near (near 3 or more), 2 and 1
pub record Weighted (f g : Strength) : Type 0 where
  pub least : 3 ≤ f.w0
  pub pri : pri_in f.s f.sh f.w0 ≡ f
  pub sec : sec_in g.s g.sh ≡ g

-- the block of cols by rows samples of a plane at row y and column x, filtered and stored in d, whose first row is the plane's row y0 (at most y)
abbrev pub stored_block : List ℕ → FullPlane → FilterParams → ℕ → ℕ → ℕ → ℕ → ℕ → List ℕ
stored_block d p q y0 y x cols rows = put_block d p.width (λ r c. filtered (plane_in_full p) q (y0 + r) c) (y - y0) x cols rows
