-- `cdef_c::trying::quern_try_chroma` meets its contract.
use mathlib.Core.Path.{ap, ◌∙◌}
use Rattle.cdef_c.specs.JoinLaws.{trying-parts}
use Rattle.cdef_spec.specs.Answers.{number_of}
use Rattle.cdef_c.proofs.trying.quern_try_chroma.Goals as goal

pub returns : goal.returns
returns c = rw (← c.choice_of-d.ensures, ← c.chroma-picture.ensures) (record { code = c.number.ensures ∙ ap number_of (trying-parts _ _ _ c.try_units.ensures).0; totals_after = (trying-parts _ _ _ c.try_units.ensures).1 })
