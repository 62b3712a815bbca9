-- `try_packed::pack` meets its contract.
use mathlib.Core.Path.{◌≡◌}
use Prim.Native.Nat.{ℕ, ◌+◌, ◌-◌, ◌*◌, ◌/◌, ◌%◌, ◌≤◌}
use lib.ListN.{length, take}
use Rattle.arith_sample.specs.Upto.{upto}
use Rattle.distance_sums.specs.Blocks.{at}
use Rattle.try_packed.proofs.pack.Given as goal

abbrev pub invariant-loop-j : goal.invariant-loop-j
invariant-loop-j l = (take (l.to + l.j) l.b ≡ upto (λ (k : ℕ). at l.s l.start l.pitch (k / l.cols) (k % l.cols)) (l.to + l.j)) × (length l.b ≡ 64) × (l.j ≤ 4) × (l.to ≡ l.i * l.cols) × (l.from ≡ l.start + l.i * l.pitch)

abbrev pub decreases-loop-j : goal.decreases-loop-j
decreases-loop-j l = 4 - l.j

abbrev pub invariant-loop-j-then-cols-eq8 : goal.invariant-loop-j-then-cols-eq8
invariant-loop-j-then-cols-eq8 l = (take (l.to + l.j) l.b ≡ upto (λ (k : ℕ). at l.s l.start l.pitch (k / l.cols) (k % l.cols)) (l.to + l.j)) × (length l.b ≡ 64) × (l.j ≤ 8) × (l.to ≡ l.i * l.cols) × (l.from ≡ l.start + l.i * l.pitch)

abbrev pub decreases-loop-j-then-cols-eq8 : goal.decreases-loop-j-then-cols-eq8
decreases-loop-j-then-cols-eq8 l = 8 - l.j

abbrev pub invariant-loop-i : goal.invariant-loop-i
invariant-loop-i l = (take (l.i * l.cols) l.b ≡ upto (λ (k : ℕ). at l.s l.start l.pitch (k / l.cols) (k % l.cols)) (l.i * l.cols)) × (length l.b ≡ 64) × (l.i ≤ l.rows)

abbrev pub decreases-loop-i : goal.decreases-loop-i
decreases-loop-i l = l.rows - l.i
