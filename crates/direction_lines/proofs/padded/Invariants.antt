-- `direction_lines::padded` meets its contract.
use mathlib.Core.Path.{◌≡◌}
use Prim.Native.Nat.{ℕ, ◌+◌, ◌*◌, ◌/◌, ◌%◌, ◌≤◌}
use lib.ListN.{length, take}
use Rattle.arith_sample.specs.Upto.{upto}
use Rattle.direction_lines.specs.Lines.{pad_at}
use Rattle.direction_lines.proofs.padded.Given as goal

abbrev pub invariant-loop-j : goal.invariant-loop-j
invariant-loop-j l = (take (l.to + l.j) l.z ≡ upto (λ (k : ℕ). pad_at l.b (k / 24) (k % 24)) (l.to + l.j)) × (length l.z ≡ 192) × (l.j ≤ 24)

abbrev pub invariant-loop-i : goal.invariant-loop-i
invariant-loop-i l = (take (l.i * 24) l.z ≡ upto (λ (k : ℕ). pad_at l.b (k / 24) (k % 24)) (l.i * 24)) × (length l.z ≡ 192) × (l.i ≤ 8)
