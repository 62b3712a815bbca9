-- `distance_weight::constants_of` meets its contract: neither shift loses a bit, and both numbers are below 2 ^ 53.
use mathlib.Core.Path.{◌≡◌, sym, subst}
use Prim.Native.Nat.{ℕ, ◌-◌, ◌*◌, ◌%◌, ◌^◌, ◌≤◌}
use native.Mathlib.Nat.{lt_of_le_of_lt, mod-eq_of_lt}
use native.Mathlib.Omega.{arith}
use lib.IntN.{pos}
use lib.Dec.{T, lit<}
use lib.Ieee.{binary64, in_float}
use Rattle.cdef_spec.specs.Distance.{constants_of}
use Rattle.distance_weight.specs.WeighingLaws.{first_small, second-small, in-float}
use Rattle.distance_weight.proofs.constants_of.Goals as goal

first-exact : (k : ℕ) → k ≤ 4 → 400 * 2 ^ (2 * k) % 2 ^ 64 ≡ 400 * 2 ^ (2 * k)
first-exact k h = mod-eq_of_lt (lt_of_le_of_lt (first_small k h) (lit< tt))

second-exact : (k : ℕ) → k ≤ 4 → 20000 * 2 ^ (4 * k) % 2 ^ 64 ≡ 20000 * 2 ^ (4 * k)
second-exact k h = mod-eq_of_lt (lt_of_le_of_lt (second-small k h) (lit< tt))

first-held : (k : ℕ) → k ≤ 4 → T (in_float binary64 (pos (400 * 2 ^ (2 * k) % 2 ^ 64)))
first-held k h = subst (λ (z : ℕ). T (in_float binary64 (pos z))) (sym (first-exact k h)) (in-float (400 * 2 ^ (2 * k)) (omega (arith, first_small k h)))

second-held : (k : ℕ) → k ≤ 4 → T (in_float binary64 (pos (20000 * 2 ^ (4 * k) % 2 ^ 64)))
second-held k h = subst (λ (z : ℕ). T (in_float binary64 (pos z))) (sym (second-exact k h)) (in-float (20000 * 2 ^ (4 * k)) (omega (arith, second-small k h)))

pub int_to_float-result : goal.int_to_float-result
int_to_float-result c = first-held (c.before.args.depth - 8) (omega arith)

pub int_to_float-result-2 : goal.int_to_float-result-2
int_to_float-result-2 c = second-held (c.before.before.args.depth - 8) (omega arith)

pub returns : goal.returns
returns c = let k = c.before.before.args.depth - 8 in
    let d : k ≤ 4 = omega arith in
    unfold constants_of in rw (first-exact k d, second-exact k d)
