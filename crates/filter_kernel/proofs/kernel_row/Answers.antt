-- `filter_kernel::kernel_row` meets its contract.
use mathlib.Core.Path.{◌∙◌}
use Rattle.filter_kernel.proofs.Shapes.{neither-row, sec-only, pri-only, both-row}
use Rattle.filter_kernel.proofs.kernel_row.Goals as goal

pub returns-in-0-eq0 : goal.returns-in-0-eq0
returns-in-0-eq0 c = c.centre_row.ensures ∙ neither-row _ _ _ _ _ c.in-0-eq0.is-0 c.in-0-eq0.is-1

pub returns-in-0-default : goal.returns-in-0-default
returns-in-0-default c = c.sec_row.ensures ∙ sec-only _ _ _ _ _ c.in-0-default.is-0 c.in-0-default.is-1.1

pub returns-in_default-eq0 : goal.returns-in_default-eq0
returns-in_default-eq0 c = c.pri_row.ensures ∙ pri-only _ _ _ _ _ c.in_default-eq0.is-0.1 c.in_default-eq0.is-1

pub returns-in_default : goal.returns-in_default
returns-in_default c = c.filtered_row.ensures ∙ both-row _ _ _ _ _ c.in_default.is-0.1 c.in_default.is-1.1
