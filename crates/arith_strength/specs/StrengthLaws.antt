-- Ranges of strengths: shifted to a depth, and adjusted.
use Rattle.std.specs.Prelude.{◌≡◌, Bool, true, false, cond, ℕ, ◌+◌, ◌-◌, ◌*◌, ◌/◌, ◌%◌, ◌^◌, ◌≤◌, min, eqb}
use Rattle.std.proofs.Common.{mul-le-mul, arith, pow_mono}
use Rattle.cdef_spec.specs.Words.{◌>>◌}
use Rattle.cdef_spec.specs.Standard.{floor_log2, adjust_pri}

-- a strength up to 15, shifted by depth - 8, is at most 240 and fits
pub limit-low : (n d : ℕ) → n ≤ 15 → d ≤ 12 → n * 2 ^ (d - 8) ≤ 240
limit-low n d hn hd =
    let k : d - 8 ≤ 4 = omega arith in
    let l : 2 ^ (d - 8) ≤ 2 ^ 4 = pow_mono {i = d - 8} {j = 4} k in
    let m : n * 2 ^ (d - 8) ≤ 15 * 2 ^ 4 = mul-le-mul hn l in
    omega arith

pub limit : (n d : ℕ) → n ≤ 15 → d ≤ 12 → (n * 2 ^ (d - 8)) % 2 ^ 32 ≡ n * 2 ^ (d - 8)
limit n d hn hd = omega (arith, limit-low n d hn hd)

-- adjusting never raises a strength
weighed : (s l : ℕ) → l ≤ 12 → (s * (4 + l) + 8) / 2 ^ 4 ≤ s
weighed s l h = let k : 4 + l ≤ 16 = omega arith in let r : s ≤ s = omega arith in omega (arith, mul-le-mul r k)

capped : (b : Bool) (n : ℕ) → cond b 0 (min n 12) ≤ 12
capped true n = omega arith
capped false n = omega arith

pub adjust-low : (s v : ℕ) → adjust_pri s v ≤ s
unfolding adjust_pri
adjust-low s v = go (eqb v 0)
  where
    go : (b : Bool) → cond b 0 ((s * (4 + cond (eqb (v >> 6) 0) 0 (min (floor_log2 (v >> 6)) 12)) + 8) >> 4) ≤ s
    go true = omega arith
    go false = weighed s (cond (eqb (v >> 6) 0) 0 (min (floor_log2 (v >> 6)) 12)) (capped (eqb (v >> 6) 0) (floor_log2 (v >> 6)))
