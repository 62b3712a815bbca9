-- `cdef::applying::apply_units` meets its contract.
use Rattle.std.proofs.Common.{sym, ◌∙◌}
use Rattle.cdef_pairs.specs.KindLaws.{slice-outcome}
use Rattle.cdef.proofs.applying.apply_units.Goals as goal

pub returns : goal.returns
returns c = sym (slice-outcome _ _ _ _ _) ∙ c.apply_pairs.ensures
