-- `testlib_lines::numbers::LenientNumbers::is_end` meets its contract.
use Rattle.std.proofs.Common.{◌∙◌}
use Rattle.testlib_lines.proofs.LineLaws.{none_left}
use Rattle.testlib_lines.proofs.numbers.LenientNumbers.is_end.Goals as goal

pub returns : goal.returns
returns c = c.is_empty.ensures ∙ none_left c.args.self.now.rest.now
