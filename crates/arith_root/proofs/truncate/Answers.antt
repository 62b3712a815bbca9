-- `arith_root::truncate` meets its contract.
use mathlib.Core.Path.{sym, ◌∙◌, subst}
use Prim.Native.Nat.{ℕ, ◌+◌, ◌-◌, ◌*◌, ◌/◌, ◌%◌, ◌^◌, ◌≤◌, ◌<◌}
use native.Mathlib.Nat.{le_of_eq, lt_of_le_of_lt, div-le_self}
use native.Mathlib.Omega.{arith}
use mathlib.Core.Bool.{false}
use lib.Dec.{T, lit<}
use lib.Pow.{pow_pos}
use lib.Ieee.{Float, binary64, fits, to_bits}
use lib.Ieee.Bits.{of_bits-to_bits}
use lib.Ieee.Exact.{HasValue}
use Rattle.arith_root.specs.PatternLaws.{pattern-range, normal-no-nan, pattern-value, units_of}
use Rattle.arith_root.specs.TruncateLaws.{below-value, truncated-value, field-high, none, some}
use Rattle.arith_root.proofs.truncate.Goals as goal
use Rattle.arith_root.proofs.truncate.Goals.{Start}

fits-so : (c : Start) → T (fits binary64 c.args.x)
fits-so c = subst T (sym c.well_formed.0.1) tt

abbrev B : Start → ℕ
B c = to_bits binary64 c.args.x

-- the pattern's range, and x as the number that it stands for
record Known (x : Float) (b : ℕ) : Type 0 where
  low : 2 ^ 52 ≤ b
  high : b < 1076 * 2 ^ 52
  value : HasValue x false (units_of b) (2 ^ 1074)

known : (c : Start) → Known c.args.x (B c)
known c =
    let x = c.args.x in
    let b = B c in
    let r = pattern-range x (fits-so c) c.requires.0 in
    let v : HasValue x false (units_of b) (2 ^ 1074) = subst (λ (z : Float). HasValue z false (units_of b) (2 ^ 1074)) (of_bits-to_bits binary64 x (fits-so c)) (pattern-value b r.0 r.1) in
    record { low = r.0; high = field-high b r.0 (below-value x (units_of b) (2 ^ 1074) 53 (pow_pos 1074) v c.requires.1); value = v }

pub float_to_bits-b : goal.float_to_bits-b
float_to_bits-b c = normal-no-nan c.args.x c.requires.0

pub overflow_sub-result : goal.overflow_sub-result
overflow_sub-result c = omega (arith, known c.before)

pub returns-then-field-lt1023 : goal.returns-then-field-lt1023
returns-then-field-lt1023 c = let s = c.before in
    let k = known s in
    let e = none (B s) k.low (omega (arith, c.if-field-lt1023.true)) in
    sym (truncated-value s.args.x (units_of (B s)) (2 ^ 1074) (pow_pos 1074) k.value (lt_of_le_of_lt (le_of_eq e) (lit< tt)) ∙ e)

pub returns : goal.returns
returns c = let s = c.before in
    let k = known s in
    let b = B s in
    let e = some b k.low (omega arith) in
    let u : (2 ^ 52 + b % 2 ^ 52) / 2 ^ (1075 - b / 2 ^ 52) < 2 ^ 64 = lt_of_le_of_lt (div-le_self (2 ^ 52 + b % 2 ^ 52) (2 ^ (1075 - b / 2 ^ 52))) (omega arith) in
    sym (truncated-value s.args.x (units_of b) (2 ^ 1074) (pow_pos 1074) k.value (lt_of_le_of_lt (le_of_eq e) u) ∙ e)
