-- `direction_lane_sums::added` meets its contract.
use mathlib.Core.Path.{◌≡◌, refl}
use mathlib.Core.List.{List}
use Prim.Native.Nat.{ℕ}
use native.Mathlib.Omega.{arith}
use lib.IntN.{ℤ, pos}
use Rattle.arith_sample.specs.Bounds.{Within}
use lib.ListN.{get_or}
use Rattle.arith_sample.proofs.Joins.{Is, add_ok, add_is, back_is}
use Rattle.direction_lane_sums.specs.Lines.{sums_of}
use Rattle.direction_lane_sums.specs.LinesLaws.{row-none, sums_next, sums-past}
use Rattle.direction_lane_sums.proofs.added.Goals as goal

-- what an iteration reads
first : (p z l : List ℤ) (k : ℕ) → Within p 2048 → l ≡ sums_of p z k → Is (get_or l k (pos 0)) (get_or p k (pos 0)) 2048
first p z l k h e = record { is = rw e (sums-past p z k k (omega arith)); small = h.all k }

second : (z : List ℤ) (k : ℕ) → Within z 256 → Is (get_or z k (pos 0)) (get_or z k (pos 0)) 256
second z k h = record { is = refl; small = h.all k }

pub loop-k-init : goal.loop-k-init
loop-k-init c = row-none _ _

pub add-requires : goal.add-requires
add-requires c = add_ok (first _ _ _ c.loop-k.k c.requires.within.0 c.loop-k.invariant) (second _ c.loop-k.k c.requires.within.1) (omega arith)

pub loop-k-preserved : goal.loop-k-preserved
loop-k-preserved c =
    sums_next _ _ _ _ _ c.loop-k.invariant
    (back_is (add_is (first _ _ _ c.loop-k.k c.requires.within.0 c.loop-k.invariant) (second _ c.loop-k.k c.requires.within.1) (omega arith) c.add.ensures) (omega arith))
