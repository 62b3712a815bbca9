-- `distance_sums::row_squares` meets its contract.
use mathlib.Core.Path.{◌≡◌, ◌∙◌}
use Prim.Native.Nat.{◌+◌, ◌≤◌}
use native.Mathlib.Omega.{arith}
use lib.ListN.{get_or}
use Rattle.distance_sums.specs.SumLaws.{sum-none, sum_more, difference-high}
use Rattle.distance_sums.proofs.row_squares.Goals as goal
use Rattle.distance_sums.proofs.row_squares.Goals.{After-squared_difference-t}

-- a squared difference of two samples
small : (c : After-squared_difference-t) → c.squared_difference-t.result ≤ 16769025
small c =
    let s = c.before.before.before.before.before.before.before in
    let j = c.before.before.before.before.loop-j.j in
    let h = s.requires.samples_taken j c.before.before.before.loop-j-test.true in
    omega (arith, c.squared_difference-t.ensures, difference-high (get_or s.args.o.now (s.args.from + j) 0) (get_or s.args.d.now (s.args.to + j) 0) 4095 (omega (arith, h.0)) (omega (arith, h.1)))

pub loop-j-init : goal.loop-j-init
loop-j-init c = (sum-none _, omega arith, omega arith)

pub squared_difference-t-requires : goal.squared_difference-t-requires
squared_difference-t-requires c = c.before.before.before.before.before.before.requires.samples_taken c.before.before.before.loop-j.j c.before.before.loop-j-test.true

pub overflow_add-t : goal.overflow_add-t
overflow_add-t c = omega (arith, small c)

pub loop-j-preserved : goal.loop-j-preserved
loop-j-preserved c = let p = c.before.before.before.before in (rw (p.loop-j.invariant.0, c.squared_difference-t.ensures) (sum_more _ _), omega arith, omega (arith, small c))

pub returns : goal.returns
returns c = let p = c.before in let e : p.loop-j.j ≡ c.before.before.before.before.args.n = omega arith in p.loop-j.invariant.0 ∙ rw e
