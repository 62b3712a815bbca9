-- `cdef::pass::directions` meets its contract.
use Rattle.std.proofs.Common.{rules}
use Rattle.cdef_spec.specs.AnswerLaws.{zero-so}
use Rattle.cdef_spec.specs.Lent.{plane_in_full}
use Rattle.cdef.proofs.PassLaws.{pass-refuses, pass-ready, pass-does}
use Rattle.cdef.proofs.pass.directions.Goals as goal

pub returns-in_err-full : goal.returns-in_err-full
returns-in_err-full c = pass-refuses _ _ _ _ _ c.in_err-full.field-0.0 _ (search rules) c.in_err-full.ensures.first_no

pub direction_pass-requires : goal.direction_pass-requires
unfolding plane_in_full
direction_pass-requires c =
    let z = zero-so c.in_ok-full.full _ c.in_ok-full.ensures.first_no in
    let f = pass-ready _ _ _ _ z (plane_in_full c.in_ok-full.full) c.in_ok-full.ensures.same in
    record { one_entry_per_block = (f.dirs-long, f.vars-long); depth_8_to_12 = (f.deep, f.flat); samples_fit = f.low }

pub returns : goal.returns
unfolding plane_in_full
returns c =
    let z = zero-so c.in_ok-full.full _ c.in_ok-full.ensures.first_no in
    pass-does _ _ _ _ z (plane_in_full c.in_ok-full.full) c.in_ok-full.ensures.same _ _ _ c.direction_pass.ensures.dirs_after c.direction_pass.ensures.vars_after
