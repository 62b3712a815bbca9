-- `arith_root::leading` meets its contract.
use mathlib.Core.Path.{sym, subst}
use lib.Dec.{T}
use lib.Ieee.{binary64, of_bits}
use lib.Ieee.Positive.{above_of_le}
use Rattle.arith_root.specs.PatternLaws.{above_no_nan}
use Rattle.arith_root.proofs.leading.Goals as goal

pub float_to_bits-result : goal.float_to_bits-result
unfolding of_bits
float_to_bits-result c = above_no_nan c.before.args.s (above_of_le (of_bits binary64 0x3ff0_0000_0000_0000) c.before.args.s tt (subst T (sym c.if-s.true) tt))
