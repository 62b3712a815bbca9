-- `filter_kernel::secondary` meets its contract.
use Rattle.filter_kernel.specs.Kernel.{sec_of}
use Rattle.filter_kernel.proofs.secondary.Goals as goal

pub returns : goal.returns
unfolding sec_of
returns c = rw c.shift_of.ensures
