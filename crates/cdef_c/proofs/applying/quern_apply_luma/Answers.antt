-- `cdef_c::applying::quern_apply_luma` meets its contract.
use mathlib.Core.Path.{ap, ◌∙◌}
use Rattle.cdef_c.specs.JoinLaws.{applying-parts}
use Rattle.cdef_spec.specs.Answers.{number_of}
use Rattle.cdef_c.proofs.applying.quern_apply_luma.Goals as goal

pub returns : goal.returns
returns c = rw (← c.choice_of-d.ensures, ← c.luma-picture.ensures) (record { code = c.number.ensures ∙ ap number_of (applying-parts _ _ _ c.apply_units.ensures).0; dst_after = (applying-parts _ _ _ c.apply_units.ensures).1 })
