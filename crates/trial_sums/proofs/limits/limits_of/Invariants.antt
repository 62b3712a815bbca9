-- `trial_sums::limits::limits_of` meets its contract.
use mathlib.Core.Path.{◌≡◌}
use Prim.Native.Nat.{ℕ, ◌+◌, ◌-◌, ◌≤◌}
use lib.ListN.{get_or, length, take}
use Rattle.arith_sample.specs.Upto.{upto}
use Rattle.filter_limits.specs.Limits.{lowest_of, highest_of}
use Rattle.filter_rows.specs.Pairs.{pairs_of}
use Rattle.trial_sums.proofs.limits.limits_of.Given as goal

abbrev pub invariant-loop-j : goal.invariant-loop-j
invariant-loop-j l = (take l.j l.lo ≡ upto (λ (j' : ℕ). lowest_of (pairs_of l.t (l.at + j') l.o) (get_or l.t (l.at + j') 0)) l.j) × (take l.j l.hi ≡ upto (λ (j' : ℕ). highest_of (pairs_of l.t (l.at + j') l.o) (get_or l.t (l.at + j') 0)) l.j) × (length l.lo ≡ 16) × (length l.hi ≡ 16) × (l.j ≤ 16)

abbrev pub decreases-loop-j : goal.decreases-loop-j
decreases-loop-j l = 16 - l.j
