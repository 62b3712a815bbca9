-- `testlib_lines::numbers::value` meets its contract.
use Rattle.std.proofs.Common.{◌≤◌}
use Rattle.testlib_lines.proofs.numbers.value.Given as goal

abbrev pub invariant-loop-digit : goal.invariant-loop-digit
invariant-loop-digit l = l.value ≤ 10000000000000000
