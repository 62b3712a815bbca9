-- A difference and a damping that pass are in range.
use Rattle.std.proofs.Common.{arith}
use Rattle.cdef_spec.specs.AnswerLaws.{zero-so}
use Rattle.check_numbers.specs.NumberLaws.{constrain-yes}
use Rattle.cdef_blocks.proofs.numbers.constrain.Goals as goal

pub constrain_spec-requires : goal.constrain_spec-requires
constrain_spec-requires c = let k = constrain-yes _ _ _ (zero-so _ _ c.in_ok-constrain_no.ensures) in (omega (arith, k.0), k.2)
