-- `direction_lines::turned` meets its contract.
use mathlib.Core.Path.{◌≡◌}
use Prim.Native.Nat.{ℕ, ◌+◌, ◌*◌, ◌/◌, ◌%◌, ◌≤◌}
use lib.ListN.{length, take, get_or}
use lib.IntN.{pos}
use Rattle.arith_sample.specs.Upto.{upto}
use Rattle.direction_lines.proofs.turned.Given as goal

abbrev pub invariant-loop-j : goal.invariant-loop-j
invariant-loop-j l = (take (l.to + l.j) l.t ≡ upto (λ (k : ℕ). get_or l.b (k % 8 * 8 + k / 8) (pos 0)) (l.to + l.j)) × (length l.t ≡ 64) × (l.j ≤ 8)

abbrev pub invariant-loop-i : goal.invariant-loop-i
invariant-loop-i l = (take (l.i * 8) l.t ≡ upto (λ (k : ℕ). get_or l.b (k % 8 * 8 + k / 8) (pos 0)) (l.i * 8)) × (length l.t ≡ 64) × (l.i ≤ 8)
