-- `still_steps::totals::differing` meets its contract.
use Rattle.std.proofs.Common.{◌≡◌}
use Rattle.still_lists.specs.Lists.{differ}
use Rattle.still_steps.proofs.totals.differing.Given as goal

abbrev pub invariant-loop-u : goal.invariant-loop-u
invariant-loop-u l = l.count ≡ differ l.tried l.measured l.trial l.u
