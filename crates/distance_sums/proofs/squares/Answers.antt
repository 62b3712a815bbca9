-- `distance_sums::squares` meets its contract.
use mathlib.Core.Path.{◌≡◌, ◌∙◌}
use Prim.Native.Nat.{ℕ, ◌+◌, ◌*◌, ◌≤◌, ◌<◌}
use native.Mathlib.Omega.{arith}
use lib.ListN.{get_or, length}
use Rattle.distance_sums.specs.Blocks.{at}
use Rattle.distance_sums.specs.BlockLaws.{rows_none, rows_more, row-high}
use Rattle.distance_sums.proofs.squares.Goals as goal
use Rattle.distance_sums.proofs.squares.Goals.{After-row_squares-t, In-loop-i}

-- a row lies in its list, and its samples are below 4096
row-o : (c : In-loop-i) → let a = c.before.before.before.before.args in a.from + c.before.loop-i.i * a.pitch + a.cols ≤ length a.o.now
row-o c = c.before.before.before.before.requires.2.held c.before.loop-i.i c.loop-i-test.true

row-d : (c : In-loop-i) → let a = c.before.before.before.before.args in a.to + c.before.loop-i.i * a.step + a.cols ≤ length a.d.now
row-d c = c.before.before.before.before.requires.3.held c.before.loop-i.i c.loop-i-test.true

low : (c : In-loop-i) → let a = c.before.before.before.before.args in (j : ℕ) → j < a.cols → (get_or a.o.now (a.from + c.before.loop-i.i * a.pitch + j) 0 < 4096) × (get_or a.d.now (a.to + c.before.loop-i.i * a.step + j) 0 < 4096)
unfolding at
low c j h = (c.before.before.before.before.requires.2.low _ j c.loop-i-test.true h, c.before.before.before.before.requires.3.low _ j c.loop-i-test.true h)

small : (c : After-row_squares-t) → c.row_squares-t.result ≤ 134152200
unfolding at
small c =
    omega (arith, c.row_squares-t.ensures, row-high c.args.cols (λ j. get_or c.args.o.now (c.args.from + c.loop-i.i * c.args.pitch + j) 0) (λ j. get_or c.args.d.now (c.args.to + c.loop-i.i * c.args.step + j) 0) c.requires.1 (λ j h. (c.requires.2.low _ j c.loop-i-test.true h, c.requires.3.low _ j c.loop-i-test.true h)))

pub loop-i-init : goal.loop-i-init
loop-i-init c = (rows_none _ _ _ _ _ _ _, omega arith, omega arith)

pub overflow_mul-i : goal.overflow_mul-i
overflow_mul-i c = omega (arith, row-o c)

pub overflow_add-from : goal.overflow_add-from
overflow_add-from c = omega (arith, row-o c)

pub overflow_mul-i-in-loop-i : goal.overflow_mul-i-in-loop-i
overflow_mul-i-in-loop-i c = omega (arith, row-d c)

pub overflow_add-to : goal.overflow_add-to
overflow_add-to c = omega (arith, row-d c)

pub row_squares-t-requires : goal.row_squares-t-requires
row_squares-t-requires c = record { inside = (row-o c, row-d c, c.before.before.before.before.requires.1); samples_taken = low c }

pub overflow_add-t : goal.overflow_add-t
overflow_add-t c = omega (arith, small c)

pub loop-i-preserved : goal.loop-i-preserved
loop-i-preserved c = let p = c.before.before in (rows_more _ _ _ _ _ _ _ _ _ _ p.loop-i.invariant.0 c.row_squares-t.ensures, omega arith, omega (arith, small c))

pub returns : goal.returns
returns c = let p = c.before in let e : p.loop-i.i ≡ c.before.before.before.before.args.rows = omega arith in p.loop-i.invariant.0 ∙ rw e
