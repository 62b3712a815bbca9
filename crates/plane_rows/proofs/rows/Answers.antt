-- `plane_rows::rows` meets its contract.
use mathlib.Core.Path.{◌≡◌, refl, ap, ◌∙◌}
use mathlib.Core.List.{List}
use Prim.Native.Nat.{ℕ, ◌+◌, ◌*◌, ◌<◌}
use native.Mathlib.Omega.{arith}
use lib.ListN.{length}
use Rattle.arith_sample.specs.Upto.{upto, get_or-upto}
use Rattle.filter_rows.specs.declared.Taps.{Taps}
use Rattle.filter_rows.specs.declared.Strength.{Strength}
use Rattle.filter_kernel.specs.Kernel.{kernel_at}
use Rattle.plane_taps.specs.Steps.{taps_in}
use Rattle.plane_rows.specs.Rows.{placed, KernelRows}
use Rattle.plane_rows.specs.StoreLaws.{kept, length-placed, stored}
use Rattle.plane_rows.proofs.rows.Goals as goal

-- an iteration's row
turn : (l all last v : List ℕ) (w at i : ℕ) (t u : Taps) (f g : Strength) → t ≡ u → v ≡ upto (λ (j : ℕ). kernel_at l (at + i * w + j) t f g) 8 → length all ≡ 64 → i < 8 → KernelRows l all w at u f g 8 i → last ≡ placed all (i * 8) v 0 8 → KernelRows l last w at u f g 8 (i + 1)
turn l all last v w at i t u f g et ev size hi old h = kept l w at u f g all last v i 1 old (λ r j hr hj.
    let z : r ≡ 0 = omega arith in
    let n : 0 * 8 + j ≡ j = omega arith in
    let k : i + 0 ≡ i = omega arith in
    rw (z, n, k, ev, et) (get_or-upto (λ (j : ℕ). kernel_at l (at + i * w + j) u f g) 8 j 0 hj)) (omega arith) h

pub taps-t-requires : goal.taps-t-requires
taps-t-requires c = (c.requires.all_low.3, c.requires.all_low.1, omega arith)

pub loop-i-init : goal.loop-i-init
loop-i-init c = (record { all = λ i j hi. absurd (omega arith) }, refl, omega arith)

pub overflow_mul-i : goal.overflow_mul-i
overflow_mul-i c = let a = (c.requires.rows_inside c.loop-i.i (omega arith)).0 in omega (arith, a.p0.high, a.p0.small)

pub overflow_add-at : goal.overflow_add-at
overflow_add-at c = let a = (c.requires.rows_inside c.loop-i.i (omega arith)).0 in omega (arith, a.p0.high, a.p0.small)

pub row-v-requires : goal.row-v-requires
row-v-requires c = (rw c.taps-t.ensures (c.requires.rows_inside c.loop-i.i (omega arith)).0, c.requires.all_low.0, c.requires.all_low.4, c.requires.all_low.5)

pub overflow_mul-i-in-loop-i : goal.overflow_mul-i-in-loop-i
overflow_mul-i-in-loop-i c = omega (arith, c.requires.all_low.2)

pub keep-requires : goal.keep-requires
keep-requires c = omega (arith, c.requires.all_low.2)

pub loop-i-preserved : goal.loop-i-preserved
loop-i-preserved c = let a = c.args in
    let p = c.loop-i in
    (turn a.src.now _ _ _ a.w a.at p.i _ (taps_in a.w a.dir) _ _ c.taps-t.ensures c.row-v.ensures p.invariant.1 (omega (arith, c.requires.all_low.2)) p.invariant.0 c.keep.ensures, ap length c.keep.ensures ∙ length-placed _ _ _ _ 8 ∙ p.invariant.1, omega arith)

pub store-requires : goal.store-requires
store-requires c = (c.requires.all_low.2, λ i h. (c.requires.rows_inside i h).1)

pub shape_of-dst : goal.shape_of-dst
shape_of-dst c = c.store.auto.dst

pub returns : goal.returns
returns c = let a = c.args in
    let r = c.requires.all_low in
    let p = c.loop-i in
    stored a.src.now r.0 a.w a.at _ _ _ r.4 r.5 _ _ _ a.to p.i a.n (omega arith) p.invariant.0 c.store.ensures
