-- A strength that passes is at most 240.
use Rattle.std.proofs.Common.{arith}
use Rattle.cdef_spec.specs.AnswerLaws.{zero-so}
use Rattle.check_numbers.specs.NumberLaws.{adjust-yes}
use Rattle.cdef_blocks.proofs.numbers.adjust.Goals as goal

pub adjust_pri-requires : goal.adjust_pri-requires
adjust_pri-requires c = omega (arith, adjust-yes _ _ (zero-so _ _ c.in_ok-adjust_no.ensures))
