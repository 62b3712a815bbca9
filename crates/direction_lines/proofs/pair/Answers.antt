-- `direction_lines::pair` meets its contract.
use mathlib.Core.Path.{refl}
use Prim.Native.Nat.{ℕ, ◌+◌}
use native.Mathlib.Omega.{arith}
use lib.ListN.{get_or}
use lib.IntN.{pos}
use Rattle.arith_sample.proofs.Joins.{Is, add_ok, add_is, back_is}
use Rattle.direction_lines.specs.Lines.{pair_at}
use Rattle.direction_lines.proofs.pair.Goals as goal
use Rattle.direction_lines.proofs.pair.Goals.{Start}

-- what was read
at : (s : Start) (k : ℕ) → Is (get_or s.args.z.now k (pos 0)) (get_or s.args.z.now k (pos 0)) 128
at s k = record { is = refl; small = s.requires.1.all k }

pub add-requires : goal.add-requires
add-requires c = add_ok (at c.before.before c.args.k) (at c.before.before (c.args.k + c.args.one)) (omega arith)

pub returns : goal.returns
returns c = unfold pair_at in back_is (add_is (at c.before.before.before c.args.k) (at c.before.before.before (c.args.k + c.args.one)) (omega arith) c.add.ensures) (omega arith)
