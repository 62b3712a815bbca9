-- `direction_lanes::interleaved` meets its contract.
use mathlib.Core.Path.{◌≡◌}
use Prim.Native.Nat.{ℕ, ◌+◌, ◌*◌, ◌≤◌}
use lib.IntN.{pos}
use lib.ListN.{length, take, get_or}
use Rattle.arith_sample.specs.Upto.{upto}
use Rattle.direction_lanes.specs.Lanes.{from_at}
use Rattle.direction_lanes.proofs.interleaved.Given as goal

abbrev pub invariant-loop-j : goal.invariant-loop-j
invariant-loop-j l = (take (l.to + 2 * l.j) l.out ≡ upto (λ (k : ℕ). get_or l.a (from_at l.row l.apart l.half k) (pos 0)) (l.to + 2 * l.j)) × (length l.out ≡ 512) × (l.j ≤ 8)

abbrev pub invariant-loop-i : goal.invariant-loop-i
invariant-loop-i l = (take (l.m * 128 + l.i * 16) l.out ≡ upto (λ (k : ℕ). get_or l.a (from_at l.row l.apart l.half k) (pos 0)) (l.m * 128 + l.i * 16)) × (length l.out ≡ 512) × (l.i ≤ 8)

abbrev pub invariant-loop-m : goal.invariant-loop-m
invariant-loop-m l = (take (l.m * 128) l.out ≡ upto (λ (k : ℕ). get_or l.a (from_at l.row l.apart l.half k) (pos 0)) (l.m * 128)) × (length l.out ≡ 512) × (l.m ≤ 4)
