-- `plane_taps::load::gather` meets its contract.
use Rattle.std.proofs.Common.{◌≡◌, ℕ, ◌+◌, ◌-◌, ◌*◌, ◌/◌, ◌≤◌, length, get_or, take}
use Rattle.arith_sample.specs.Upto.{upto}
use Rattle.plane_taps.specs.Runs.{at_by}
use Rattle.plane_taps.proofs.load.gather.Given as goal

abbrev pub invariant-loop-j : goal.invariant-loop-j
invariant-loop-j g l = (take (l.to + l.j) l.v ≡ upto (λ (n : ℕ). get_or l.src (at_by g.row.N l.w l.k n) 0) (l.to + l.j)) × (length l.v ≡ 16) × (l.j ≤ g.row.N)

abbrev pub decreases-loop-j : goal.decreases-loop-j
decreases-loop-j g l = g.row.N - l.j

abbrev pub invariant-loop-i : goal.invariant-loop-i
invariant-loop-i g l = (take (l.i * g.row.N) l.v ≡ upto (λ (n : ℕ). get_or l.src (at_by g.row.N l.w l.k n) 0) (l.i * g.row.N)) × (length l.v ≡ 16) × (l.i ≤ 16 / g.row.N)

abbrev pub decreases-loop-i : goal.decreases-loop-i
decreases-loop-i g l = 16 / g.row.N - l.i
