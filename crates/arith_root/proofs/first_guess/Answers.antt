-- `arith_root::first_guess` meets its contract.
use Prim.Native.Nat.{◌*◌, ◌^◌, ◌≤◌, ◌<◌}
use native.Mathlib.Omega.{arith}
use Rattle.arith_root.specs.PatternLaws.{pattern-no-nan}
use Rattle.arith_root.proofs.first_guess.Goals as goal
use Rattle.arith_root.proofs.first_guess.Goals.{Joined-h-lt9007199254740992, else-h-lt9007199254740992, then-h-lt9007199254740992}

-- the pattern of x, from 1 to 4
b-range : (c : Joined-h-lt9007199254740992) → (1023 * 2 ^ 52 ≤ c.if-h-lt9007199254740992.b) × (c.if-h-lt9007199254740992.b < 1025 * 2 ^ 52)
b-range c = elim c.if-h-lt9007199254740992.branch [ then-h-lt9007199254740992 w ↦ (omega (arith, w.if-h-lt9007199254740992.true, w.b-is), omega (arith, w.if-h-lt9007199254740992.true, w.b-is)) | else-h-lt9007199254740992 w ↦ (omega (arith, w.if-h-lt9007199254740992.false, w.b-is), omega (arith, w.if-h-lt9007199254740992.false, w.b-is)) ]

pub float_from_bits-x : goal.float_from_bits-x
float_from_bits-x c = pattern-no-nan c.if-h-lt9007199254740992.b (omega (arith, b-range c)) (omega (arith, b-range c))

pub overflow_sub-y : goal.overflow_sub-y
overflow_sub-y c = omega (arith, b-range c.before.before)

pub float_from_bits-y : goal.float_from_bits-y
float_from_bits-y c = pattern-no-nan _ (omega (arith, b-range c.before.before)) (omega (arith, b-range c.before.before))

pub returns : goal.returns
returns c = c.leading.ensures
