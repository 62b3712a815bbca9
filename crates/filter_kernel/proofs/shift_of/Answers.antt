-- `filter_kernel::shift_of` meets its contract.
use Rattle.std.proofs.Common.{arith}
use Rattle.filter_kernel.specs.Kernel.{shift_of}
use Rattle.filter_kernel.proofs.shift_of.Goals as goal

pub returns : goal.returns
unfolding shift_of
returns c = omega (arith, c.min.ensures, c.saturating_sub.ensures, c.log2_floor.ensures)
