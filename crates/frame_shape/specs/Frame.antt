-- The blocks of a plane, and the parts of their filter parameters. Definitions only.
use Rattle.std.specs.Prelude.{List, ℕ, ◌-◌, ◌*◌, min, get_or}
use Rattle.cdef_spec.specs.Words.{◌<<◌}
use Rattle.cdef_spec.specs.Standard.{adjust_pri, chroma_direction}
use Rattle.cdef_spec.specs.declared.Block.{Block}
use Rattle.cdef_spec.specs.declared.Visible.{Visible}
use Rattle.cdef_spec.specs.declared.SignalledDamping.{SignalledDamping}
use Rattle.cdef_spec.specs.declared.WorkingDamping.{WorkingDamping}
use Rattle.cdef_spec.specs.declared.TrialWay.{TrialWay}
use Rattle.cdef_spec.specs.declared.TrialWay.TheVariants.{Luma, Chroma}
use Rattle.cdef_spec.specs.Document01.{luma_damping, chroma_damping}
use Rattle.cdef_spec.specs.Picture.{PlaneKind, luma, chroma, Picture, block_width, block_height, visible_rows, visible_cols}

-- the block in row by and column bx of the blocks
unfoldable pub block_of : Picture → ℕ → ℕ → Block
block_of q by bx = record { x = bx * block_width q; y = by * block_height q; width = block_width q; height = block_height q }

-- the visible part of a block
unfoldable pub visible_part : Picture → Visible → ℕ → ℕ → Block
visible_part q v by bx = record {
  x = bx * block_width q;
  y = by * block_height q;
  width = min (block_width q) (visible_cols q v - bx * block_width q);
  height = min (block_height q) (visible_rows q v - by * block_height q);
}

-- how block b is tried: the kind of trial, its direction in the plane, the working damping
unfoldable pub way_of : PlaneKind → ℕ → TrialWay
way_of (luma vars) b = Luma (get_or vars b 0)
way_of (chroma sx sy) b = Chroma

unfoldable pub dir_of : PlaneKind → List ℕ → ℕ → ℕ
dir_of (luma vars) dirs b = get_or dirs b 0
dir_of (chroma sx sy) dirs b = chroma_direction sx sy (get_or dirs b 0)

unfoldable pub damping_of : PlaneKind → SignalledDamping → ℕ → WorkingDamping
damping_of (luma vars) d depth = luma_damping d depth
damping_of (chroma sx sy) d depth = chroma_damping d depth

-- the working primary strength of a signalled one
unfoldable pub primary_of : PlaneKind → ℕ → ℕ → ℕ → ℕ
primary_of (luma vars) depth b s = adjust_pri (s << (depth - 8)) (get_or vars b 0)
primary_of (chroma sx sy) depth b s = s << (depth - 8)
