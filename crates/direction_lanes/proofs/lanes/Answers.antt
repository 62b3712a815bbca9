-- `direction_lanes::lanes` meets its contract.
use mathlib.Core.Path.{◌≡◌, ◌∙◌}
use mathlib.Core.List.{List}
use Prim.Native.Nat.{ℕ, ◌^◌, ◌≤◌, ◌<◌}
use native.Mathlib.Omega.{arith}
use lib.IntN.{ℤ}
use lib.ListN.{get_or}
use Rattle.cdef_spec.specs.Document01.{Plane}
use Rattle.arith_sample.specs.Bounds.{Within}
use Rattle.direction_lanes.specs.Lanes.{rows_of, interleaved_of, lanes_of}
use Rattle.direction_lanes.specs.LanesLaws.{rows-within, interleaved-within, lanes-are}
use Rattle.direction_lanes.proofs.lanes.Goals as goal

-- each array's entries are small
small : (p : Plane) (depth y x : ℕ) (a : List ℤ) → a ≡ rows_of p depth y x → 8 ≤ depth → ((k : ℕ) → get_or p.samples k 0 < 2 ^ depth) → Within a 128
small p depth y x a e hd low = rw e (rows-within p depth y x hd low)

small-next : (a b : List ℤ) (row on half : ℕ) → b ≡ interleaved_of a row on half → Within a 128 → Within b 128
small-next a b row on half e h = rw e (interleaved-within a row on half h)

-- the calls' results put together
glue : (p : Plane) (depth y x : ℕ) (a b d e : List ℤ) → a ≡ rows_of p depth y x → b ≡ interleaved_of a 8 64 32 → d ≡ interleaved_of b 64 8 256
    → e ≡ interleaved_of d 64 8 256 → e ≡ lanes_of p depth y x
glue p depth y x a b d e ea eb ed ee = ee ∙ rw (ed, eb, ea) (lanes-are p depth y x)

pub interleaved-requires : goal.interleaved-requires
interleaved-requires c = (omega arith, small _ _ _ _ _ c.rows.ensures c.requires.depth_low c.requires.low)

pub interleaved-requires-2 : goal.interleaved-requires-2
interleaved-requires-2 c = (omega arith, small-next _ _ _ _ _ c.interleaved.ensures (small _ _ _ _ _ c.rows.ensures c.requires.depth_low c.requires.low))

pub interleaved-requires-3 : goal.interleaved-requires-3
interleaved-requires-3 c = (
  omega arith,
  small-next _ _ _ _ _ c.interleaved-2.ensures (small-next _ _ _ _ _ c.interleaved.ensures (small _ _ _ _ _ c.rows.ensures c.requires.depth_low c.requires.low)),
)

pub returns : goal.returns
returns c = glue _ _ _ _ _ _ _ _ c.rows.ensures c.interleaved.ensures c.interleaved-2.ensures c.interleaved-3.ensures
