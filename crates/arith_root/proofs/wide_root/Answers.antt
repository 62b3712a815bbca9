-- `arith_root::wide_root` meets its contract.
use native.Mathlib.Omega.{arith}
use Prim.Native.Nat.{ℕ, ◌-◌, ◌*◌, ◌/◌, ◌%◌, ◌^◌}
use Rattle.arith_root.specs.WideLaws.{Parts, parts, up-by-one, stay}
use Rattle.arith_root.proofs.wide_root.Goals as goal
use Rattle.arith_root.proofs.wide_root.Goals.{After-whole_root-top}

abbrev H : After-whole_root-top → ℕ
H c = c.before.args.h

abbrev Top : After-whole_root-top → ℕ
Top c = c.whole_root-top.result

abbrev Q : After-whole_root-top → ℕ
Q c = (H c - Top c * Top c) * 2 ^ 26 / (Top c * 2)

abbrev U : After-whole_root-top → ℕ
U c = (H c - Top c * Top c) * 2 ^ 26 % (Top c * 2)

all : (c : After-whole_root-top) → Parts (H c) (Top c) (Q c) (U c)
all c = parts (H c) (Top c) c.before.requires.0 c.before.requires.1 c.whole_root-top.ensures.0 c.whole_root-top.ensures.1

pub overflow_mul-rest-2 : goal.overflow_mul-rest-2
overflow_mul-rest-2 c = omega (arith, all c)

pub overflow_mul-twice : goal.overflow_mul-twice
overflow_mul-twice c = omega (arith, all c)

pub nonzero_div-q : goal.nonzero_div-q
nonzero_div-q c = omega (arith, all c)

pub nonzero_rem-u : goal.nonzero_rem-u
nonzero_rem-u c = omega (arith, all c)

pub overflow_mul-s : goal.overflow_mul-s
overflow_mul-s c = omega (arith, all c)

pub overflow_add-s : goal.overflow_add-s
overflow_add-s c = omega (arith, all c)

pub overflow_mul-q : goal.overflow_mul-q
overflow_mul-q c = omega (arith, all c)

pub overflow_add-q : goal.overflow_add-q
overflow_add-q c = omega (arith, all c)

pub overflow_mul-u : goal.overflow_mul-u
overflow_mul-u c = omega (arith, all c)

pub overflow_add-result : goal.overflow_add-result
overflow_add-result c = omega (arith, all c.before)

pub returns-then-q-s : goal.returns-then-q-s
returns-then-q-s c = up-by-one (H c.before) (Top c.before) (Q c.before) (U c.before) (all c.before) c.if-q-s.true

pub returns-else-q-s : goal.returns-else-q-s
returns-else-q-s c = stay (H c.before) (Top c.before) (Q c.before) (U c.before) (all c.before) c.if-q-s.false
