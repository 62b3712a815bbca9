-- `cdef_c::directions::quern_direction_pass` meets its contract.
use mathlib.Core.Path.{ap, ◌∙◌}
use Rattle.cdef_c.specs.JoinLaws.{pass-parts}
use Rattle.cdef_spec.specs.Answers.{number_of}
use Rattle.cdef_spec.specs.Lent.{plane_in}
use Rattle.cdef_c.proofs.directions.quern_direction_pass.Goals as goal

pub returns : goal.returns
unfolding plane_in
returns c = record { code = c.number.ensures ∙ ap number_of (pass-parts _ _ _ _ c.directions.ensures).0; dirs_after = (pass-parts _ _ _ _ c.directions.ensures).1.0; vars_after = (pass-parts _ _ _ _ c.directions.ensures).1.1 }
