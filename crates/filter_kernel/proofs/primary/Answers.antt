-- `filter_kernel::primary` meets its contract.
use Rattle.filter_kernel.specs.Kernel.{pri_of}
use Rattle.filter_kernel.proofs.primary.Goals as goal

pub returns : goal.returns
unfolding pri_of
returns c = rw c.shift_of.ensures
