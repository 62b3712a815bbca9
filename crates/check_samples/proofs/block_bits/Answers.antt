-- A row of the block is a slice of the plane.
use Rattle.std.proofs.Common.{◌≡◌, ◌≤◌, ◌+◌, ◌-◌, ◌*◌, ℕ, mul-le-mul_right, arith}
use Rattle.check_samples.specs.LookedLaws.{row-of, rows_more}
use Rattle.check_samples.proofs.block_bits.Goals as goal

pub loop-i-preserved : goal.loop-i-preserved
loop-i-preserved c =
    let s = c.args.plane.now in
    let at : ℕ = (c.args.y + c.loop-i.i) * s.width + c.args.x in
    let n : at + c.args.cols - at ≡ c.args.cols = omega arith in
    let r : c.args.y + c.loop-i.i + 1 ≤ s.height = omega arith in
    let row = row-of s.samples.now at c.args.cols (omega (arith, mul-le-mul_right s.width r, c.args.plane.now.full)) in
    rw (c.loop-i.invariant, c.bits_of-bits.ensures, n, row) (rows_more s.samples.now s.width c.args.y c.args.x c.args.cols c.loop-i.i)
