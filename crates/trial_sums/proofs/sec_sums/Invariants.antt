-- `trial_sums::sec_sums` meets its contract.
use mathlib.Core.Path.{◌≡◌}
use Prim.Native.Nat.{ℕ, ◌+◌, ◌-◌, ◌≤◌}
use lib.ListN.{length, take}
use Rattle.arith_sample.specs.Upto.{upto}
use Rattle.trial_sums.specs.Raw.{sec_raw}
use Rattle.trial_sums.proofs.sec_sums.Given as goal

abbrev pub invariant-loop-j : goal.invariant-loop-j
invariant-loop-j l = (take l.j l.s1 ≡ upto (λ (j' : ℕ). sec_raw l.t (l.at + j') l.o l.f.s l.f.sh) l.j) × (take l.j l.s2 ≡ upto (λ (j' : ℕ). sec_raw l.t (l.at + j') l.o l.g.s l.g.sh) l.j) × (length l.s1 ≡ 16) × (length l.s2 ≡ 16) × (l.j ≤ 16)

abbrev pub decreases-loop-j : goal.decreases-loop-j
decreases-loop-j l = 16 - l.j
