-- `distance_sums::block_of` meets its contract.
use mathlib.Core.Path.{◌≡◌}
use Prim.Native.Nat.{ℕ, ◌+◌, ◌-◌, ◌*◌, ◌/◌, ◌%◌, ◌≤◌}
use lib.ListN.{length, take}
use Rattle.arith_sample.specs.Upto.{upto}
use Rattle.distance_sums.specs.Blocks.{at}
use Rattle.distance_sums.proofs.block_of.Given as goal

abbrev pub invariant-loop-j : goal.invariant-loop-j
invariant-loop-j l = (take (l.to + l.j) l.b ≡ upto (λ (k : ℕ). at l.s l.start l.pitch (k / 8) (k % 8)) (l.to + l.j)) × (length l.b ≡ 64) × (l.j ≤ 8)

abbrev pub decreases-loop-j : goal.decreases-loop-j
decreases-loop-j l = 8 - l.j

abbrev pub invariant-loop-i : goal.invariant-loop-i
invariant-loop-i l = (take (l.i * 8) l.b ≡ upto (λ (k : ℕ). at l.s l.start l.pitch (k / 8) (k % 8)) (l.i * 8)) × (length l.b ≡ 64) × (l.i ≤ 8)

abbrev pub decreases-loop-i : goal.decreases-loop-i
decreases-loop-i l = 8 - l.i
