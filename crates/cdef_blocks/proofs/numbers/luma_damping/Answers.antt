-- A signalled damping and a depth that pass are in range.
use Rattle.std.proofs.Common.{arith}
use Rattle.cdef_spec.specs.AnswerLaws.{zero-so}
use Rattle.check_numbers.specs.NumberLaws.{working-damping-yes}
use Rattle.cdef_blocks.proofs.numbers.luma_damping.Goals as goal

pub luma_damping-requires : goal.luma_damping-requires
luma_damping-requires c =
    let k = working-damping-yes _ _ (zero-so _ _ c.in_ok-working_damping_no.ensures) in
    (omega (arith, k.1), k.2, k.3)
