-- `direction_lines::line` meets its contract.
use Prim.Native.Nat.{◌+◌, ◌*◌}
use native.Mathlib.Omega.{arith}
use lib.IntN.{◌+ℤ◌}
use Rattle.arith_sample.proofs.Joins.{Is, add_ok, add_is, back_is}
use Rattle.direction_lines.specs.Lines.{pair_at, line_at}
use Rattle.direction_lines.specs.LinesLaws.{pair_size}
use Rattle.direction_lines.proofs.line.Goals as goal
use Rattle.direction_lines.proofs.line.Goals.{After-add-a, After-add-b, After-pair, After-pair-2, After-pair-3, After-pair-4}

p1 : (c : After-pair) → let a = c.args in Is c.pair.result (pair_at a.z.now a.k a.one) 256
p1 c = record { is = c.pair.ensures; small = pair_size _ _ _ c.requires.1 }

p2 : (c : After-pair-2) → let a = c.args in Is c.pair-2.result (pair_at a.z.now (a.k + a.two) a.one) 256
p2 c = record { is = c.pair-2.ensures; small = pair_size _ _ _ c.requires.1 }

p3 : (c : After-pair-3) → let a = c.args in Is c.pair-3.result (pair_at a.z.now (a.k + 2 * a.two) a.one) 256
p3 c = record { is = c.pair-3.ensures; small = pair_size _ _ _ c.requires.1 }

p4 : (c : After-pair-4) → let a = c.args in Is c.pair-4.result (pair_at a.z.now (a.k + 3 * a.two) a.one) 256
p4 c = record { is = c.pair-4.ensures; small = pair_size _ _ _ c.requires.1 }

s1 : (c : After-add-a) → let a = c.args in Is c.add-a.result (pair_at a.z.now a.k a.one +ℤ pair_at a.z.now (a.k + a.two) a.one) 512
s1 c = add_is (p1 c.before.before) (p2 c.before) (omega arith) c.add-a.ensures

s2 : (c : After-add-b) → let a = c.args in Is c.add-b.result (pair_at a.z.now (a.k + 2 * a.two) a.one +ℤ pair_at a.z.now (a.k + 3 * a.two) a.one) 512
s2 c = add_is (p3 c.before.before) (p4 c.before) (omega arith) c.add-b.ensures

pub add-a-requires : goal.add-a-requires
add-a-requires c = add_ok (p1 c.before) (p2 c) (omega arith)

pub add-b-requires : goal.add-b-requires
add-b-requires c = add_ok (p3 c.before) (p4 c) (omega arith)

pub add-requires : goal.add-requires
add-requires c = add_ok (s1 c.before.before.before) (s2 c) (omega arith)

pub returns : goal.returns
returns c = unfold line_at in back_is (add_is (s1 c.before.before.before.before) (s2 c.before) (omega arith) c.add.ensures) (omega arith)
