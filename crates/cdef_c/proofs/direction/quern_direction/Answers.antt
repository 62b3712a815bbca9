-- `cdef_c::direction::quern_direction` meets its contract.
use Rattle.std.proofs.Common.{◌∙◌, ap}
use Rattle.cdef_spec.specs.Answers.{DirectionFound, read_found}
use Rattle.cdef_spec.specs.Lent.{plane_in}
use Rattle.cdef_c.proofs.Left.{done, not_done}
use Rattle.cdef_c.proofs.direction.quern_direction.Goals as goal

pub returns-in-Ok : goal.returns-in-Ok
unfolding plane_in read_found
returns-in-Ok c =
    let old : DirectionFound = record { direction = c.args.direction.now; variance = c.args.variance.now } in
    let b = done _ old _ c.in-Ok.ensures in
    record { code = b.0; direction_value = ap (λ (f : DirectionFound). f.direction) b.1; variance_after = ap (λ (f : DirectionFound). f.variance) b.1 }

pub returns-in-Err : goal.returns-in-Err
unfolding plane_in read_found
returns-in-Err c =
    let old : DirectionFound = record { direction = c.args.direction.now; variance = c.args.variance.now } in
    let b = not_done _ old _ c.in-Err.ensures in
    record { code = c.from.ensures ∙ b.0; direction_value = ap (λ (f : DirectionFound). f.direction) b.1; variance_after = ap (λ (f : DirectionFound). f.variance) b.1 }
