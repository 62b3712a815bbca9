-- `still_steps::totals::differs` meets its contract.
use Rattle.std.proofs.Common.{sym, ap, ◌∙◌}
use mir.Syntax.{w64}
use mir.Val.{of_z, to_z}
use mir.ValLaws.{to_z-of_z}
use Rattle.still_steps.specs.TotalLaws.{bits_same}
use Rattle.still_steps.proofs.totals.differs.Goals as goal

-- the bits of two totals are the same where the totals are
pub returns : goal.returns
returns c = bits_same c.args.tried c.args.measured (of_z w64 c.args.tried) (of_z w64 c.args.measured) (λ e. sym (to_z-of_z w64 c.args.tried c.ranges.tried) ∙ ap (to_z w64) e ∙ to_z-of_z w64 c.args.measured c.ranges.measured) (λ e. ap (of_z w64) e)
