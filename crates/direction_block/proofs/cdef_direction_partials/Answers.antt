-- `direction_block::cdef_direction_partials` meets its contract.
use mathlib.Core.Path.{◌≡◌}
use mathlib.Core.List.{List}
use Prim.Native.Nat.{ℕ}
use native.Mathlib.Omega.{arith}
use lib.IntN.{ℤ}
use Rattle.cdef_spec.specs.Document01.{Plane, direction_input}
use Rattle.arith_sample.specs.Bounds.{Within}
use Rattle.direction_levels.specs.Levels.{BlockIn, block_of}
use Rattle.direction_lines.specs.Lines.{turned_of, padded_of}
use Rattle.direction_lines.specs.LinesLaws.{block_within, turned-within, padded-within, partials-from}
use Rattle.direction_levels.specs.LevelLaws.{input-small}
use Rattle.direction_block.proofs.cdef_direction_partials.Goals as goal

-- the samples are small, and so are their lists
levels-small : (p : Plane) (depth y x : ℕ) (b : List ℤ) → b ≡ block_of (direction_input p depth y x) → BlockIn p depth y x → Within b 128
levels-small p depth y x b e q = rw e (block_within _ (input-small p.samples p.width p.height depth y x q.y-in q.x-in q.low q.depth_low))

turned-small : (b t : List ℤ) → t ≡ turned_of b → Within b 128 → Within t 128
turned-small b t e h = rw e (turned-within b h)

padded-small : (b z : List ℤ) → z ≡ padded_of b → Within b 128 → Within z 128
padded-small b z e h = rw e (padded-within b h)

pub turned-t-requires : goal.turned-t-requires
turned-t-requires c = levels-small _ _ _ _ _ c.levels-b.ensures c.requires

pub padded-zb-requires : goal.padded-zb-requires
padded-zb-requires c = levels-small _ _ _ _ _ c.levels-b.ensures c.requires

pub padded-zt-requires : goal.padded-zt-requires
padded-zt-requires c = turned-small _ _ c.turned-t.ensures (levels-small _ _ _ _ _ c.levels-b.ensures c.requires)

pub lines-requires : goal.lines-requires
lines-requires c = (omega arith, padded-small _ _ c.padded-zb.ensures (levels-small _ _ _ _ _ c.levels-b.ensures c.requires))

pub lines-requires-2 : goal.lines-requires-2
lines-requires-2 c = (omega arith, padded-small _ _ c.padded-zt.ensures (turned-small _ _ c.turned-t.ensures (levels-small _ _ _ _ _ c.levels-b.ensures c.requires)))

pub lines-requires-3 : goal.lines-requires-3
lines-requires-3 c = (omega arith, padded-small _ _ c.padded-zt.ensures (turned-small _ _ c.turned-t.ensures (levels-small _ _ _ _ _ c.levels-b.ensures c.requires)))

pub lines-requires-4 : goal.lines-requires-4
lines-requires-4 c = (omega arith, padded-small _ _ c.padded-zt.ensures (turned-small _ _ c.turned-t.ensures (levels-small _ _ _ _ _ c.levels-b.ensures c.requires)))

pub lines-requires-5 : goal.lines-requires-5
lines-requires-5 c = (omega arith, padded-small _ _ c.padded-zt.ensures (turned-small _ _ c.turned-t.ensures (levels-small _ _ _ _ _ c.levels-b.ensures c.requires)))

pub lines-requires-6 : goal.lines-requires-6
lines-requires-6 c = (omega arith, padded-small _ _ c.padded-zb.ensures (levels-small _ _ _ _ _ c.levels-b.ensures c.requires))

pub lines-requires-7 : goal.lines-requires-7
lines-requires-7 c = (omega arith, padded-small _ _ c.padded-zb.ensures (levels-small _ _ _ _ _ c.levels-b.ensures c.requires))

pub lines-requires-8 : goal.lines-requires-8
lines-requires-8 c = (omega arith, padded-small _ _ c.padded-zb.ensures (levels-small _ _ _ _ _ c.levels-b.ensures c.requires))

pub returns : goal.returns
returns c = partials-from _ _ _ _ _ _ _ _ _ _ _ _ _ c.levels-b.ensures c.turned-t.ensures c.padded-zb.ensures c.padded-zt.ensures c.lines.ensures c.lines-2.ensures c.lines-3.ensures c.lines-4.ensures c.lines-5.ensures c.lines-6.ensures c.lines-7.ensures c.lines-8.ensures
