-- `plane_bytes::eights::rows` meets its contract.
use Rattle.std.proofs.Common.{◌≡◌, ℕ, ◌+◌, ◌*◌, ◌/◌, ◌<◌, ◌≤◌, length, refl, ap, ◌∙◌, mul-le-mul_right, arith}
use Rattle.plane_rows.specs.StoreLaws.{length-placed, stored}
use Rattle.plane_bytes.specs.EightLaws.{pri-in, sec-in, low_of, two-kept}
use Rattle.plane_bytes.proofs.eights.rows.Goals as goal

-- where two rows fit, each does
room : (w to len n : ℕ) → ((i : ℕ) → i < n → to + 2 * i * w + (w + 8) ≤ len) → (r : ℕ) → r < 2 * n → to + r * w + 8 ≤ len
room w to len n h r hr =
    let a : r ≤ 2 * (r / 2) + 1 = omega arith in
    omega (arith, mul-le-mul_right w a, h (r / 2) (omega arith))

pub loop-i-init : goal.loop-i-init
loop-i-init c = (record { all = λ i j hi. absurd (omega arith) }, refl, omega arith)

pub overflow_mul-i : goal.overflow_mul-i
overflow_mul-i c = omega (arith, c.requires.all_byte.2)

pub overflow_mul-i-in-loop-i : goal.overflow_mul-i-in-loop-i
overflow_mul-i-in-loop-i c = let a = (c.requires.rows_inside c.loop-i.i (omega arith)).0.p0 in omega (arith, a.high, a.small)

pub overflow_add-at : goal.overflow_add-at
overflow_add-at c = let a = (c.requires.rows_inside c.loop-i.i (omega arith)).0.p0 in omega (arith, a.high, a.small)

pub both-v-requires : goal.both-v-requires
both-v-requires c = ((c.requires.rows_inside c.loop-i.i (omega arith)).0, c.requires.all_byte.0, c.requires.all_byte.1, c.requires.all_byte.3)

pub overflow_mul-i-in-loop-i-2 : goal.overflow_mul-i-in-loop-i-2
overflow_mul-i-in-loop-i-2 c = omega (arith, c.requires.all_byte.2)

pub keep-requires : goal.keep-requires
keep-requires c = omega (arith, c.requires.all_byte.2)

pub loop-i-preserved : goal.loop-i-preserved
loop-i-preserved c = let a = c.args in
    let p = c.loop-i in
    let e = c.requires.all_byte.3.strong in
    (two-kept a.src.now a.w a.at a.t a.f a.g (λ z. omega (arith, e.some, z)) (λ z. omega (arith, e.some2, z)) _ _ _ p.i c.both-v.ensures p.invariant.1 (omega (arith, c.requires.all_byte.2)) p.invariant.0 c.keep.ensures, ap length c.keep.ensures ∙ length-placed _ _ _ _ 16 ∙ p.invariant.1, omega arith)

pub overflow_mul-n : goal.overflow_mul-n
overflow_mul-n c = omega (arith, c.requires.all_byte.2)

pub store-requires : goal.store-requires
store-requires c = (omega (arith, c.requires.all_byte.2), room c.args.w c.args.to _ c.args.n (λ i h. (c.requires.rows_inside i h).1))

pub shape_of-dst : goal.shape_of-dst
shape_of-dst c = c.store.auto.dst

pub returns : goal.returns
returns c = let a = c.args in
    let p = c.loop-i in
    let e = c.requires.all_byte.3 in
    let full : p.i ≡ a.n = omega arith in
    stored a.src.now (low_of c.requires.all_byte.0) a.w a.at a.t _ _ (rw e.pri at (pri-in e.strong)) (rw e.sec at (sec-in e.strong)) _ _ _ a.to (2 * p.i) (2 * a.n) (rw full) p.invariant.0 c.store.ensures
