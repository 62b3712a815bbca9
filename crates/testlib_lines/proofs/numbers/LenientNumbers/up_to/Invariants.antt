-- `testlib_lines::numbers::LenientNumbers::up_to` meets its contract.
use Rattle.std.proofs.Common.{◌≡◌, ◌≤◌, ◌+◌, ◌-◌, vec_len}
use Rattle.testlib_lines.specs.Lines.{numbers_in}
use Rattle.testlib_lines.proofs.numbers.LenientNumbers.up_to.Given as goal

abbrev pub invariant-loop-self : goal.invariant-loop-self
invariant-loop-self g l = (vec_len l.items ≤ l.most) × (vec_len l.items + numbers_in l.self.rest.now ≡ numbers_in l.initial.self.rest.now)

abbrev pub decreases-loop-self : goal.decreases-loop-self
decreases-loop-self g l = l.most - vec_len l.items
