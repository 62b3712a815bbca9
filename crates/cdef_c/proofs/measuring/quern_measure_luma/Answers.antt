-- `cdef_c::measuring::quern_measure_luma` meets its contract.
use mathlib.Core.Path.{ap, ◌∙◌}
use Rattle.cdef_c.specs.JoinLaws.{measuring-parts}
use Rattle.cdef_spec.specs.Answers.{number_of}
use Rattle.cdef_c.proofs.measuring.quern_measure_luma.Goals as goal

pub returns : goal.returns
returns c = rw (← c.choice_of-d.ensures, ← c.luma-picture.ensures) (record { code = c.number.ensures ∙ ap number_of (measuring-parts _ _ _ _ c.measure_units.ensures).0; totals_after = (measuring-parts _ _ _ _ c.measure_units.ensures).1.0; scratch_after = (measuring-parts _ _ _ _ c.measure_units.ensures).1.1 })
