-- `filter_kernel::taps` meets its contract.
use mathlib.Core.Path.{◌∙◌}
use native.Mathlib.Omega.{arith}
use Rattle.filter_kernel.specs.PlaceLaws.{taps-window}
use Rattle.filter_kernel.proofs.taps.Goals as goal

pub taps-requires : goal.taps-requires
taps-requires c = (c.requires, omega arith, omega arith)

pub returns : goal.returns
returns c = c.taps.ensures ∙ taps-window c.before.args.dir
