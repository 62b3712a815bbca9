-- `check_picture::variances_taken` meets its contract: the variances of luma are tested as numbers.
use Rattle.std.proofs.Common.{◌∙◌}
use Rattle.cdef_spec.specs.Lent.{kind_in}
use Rattle.cdef_spec.specs.Questions.{variances_taken}
use Rattle.check_lists.specs.ListLaws.{below_all}
use Rattle.check_picture.proofs.variances_taken.Goals as goal

pub returns-in-Luma : goal.returns-in-Luma
unfolding variances_taken kind_in
returns-in-Luma c = rw c.in-Luma.is (c.all_below.ensures ∙ below_all _ _)
