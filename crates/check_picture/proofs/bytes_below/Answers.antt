-- `check_picture::bytes_below` meets its contract: bytes are tested as numbers.
use Rattle.std.proofs.Common.{◌∙◌}
use Rattle.check_lists.specs.ListLaws.{below_all}
use Rattle.check_picture.proofs.bytes_below.Goals as goal

pub returns : goal.returns
returns c = c.all_below.ensures ∙ below_all _ _
