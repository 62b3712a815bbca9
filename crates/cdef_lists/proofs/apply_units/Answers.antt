-- `cdef_lists::apply_units` meets its contract.
use Rattle.std.proofs.Common.{sym, ◌∙◌}
use Rattle.cdef_pairs.specs.KindLaws.{lists-outcome}
use Rattle.cdef_lists.proofs.apply_units.Goals as goal

pub returns : goal.returns
returns c = sym (lists-outcome _ _ _ _ _ _) ∙ c.applying.ensures
