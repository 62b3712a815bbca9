-- `direction_lane_sums::lines` meets its contract.
use mathlib.Core.Path.{◌≡◌, refl, ap, ◌∙◌}
use mathlib.Core.List.{List}
use Prim.Native.Nat.{ℕ, ◌+◌, ◌*◌, ◌≤◌, ◌<◌}
use native.Mathlib.Omega.{arith}
use lib.IntN.{ℤ, pos, nat_abs}
use lib.ListN.{length, take, drop, get_or, get_or-eq_default}
use Rattle.std.proofs.lemmas.List.{places}
use Rattle.std.proofs.Math.Seq.{get_or-take, get_or-drop}
use Rattle.std.proofs.Math.Decide.{dec_lt}
use Rattle.cdef_spec.specs.Words.{sum_ℤ}
use Rattle.arith_sample.specs.Bounds.{Within}
use Rattle.arith_sample.specs.Upto.{upto, length-upto}
use Rattle.direction_lane_sums.specs.declared.Step.{Step}
use Rattle.direction_lane_sums.specs.Lines.{place_of, lane_lines}
use Rattle.direction_lane_sums.specs.LinesLaws.{added-mid, sums-more, sums-within, place-high}
use Rattle.direction_lane_sums.proofs.lines.Goals as goal

-- a row's place
placed : (i rows first : ℕ) (step : Step) (r : ℕ) → r ≡ place_of i rows first step → i < rows → first + rows ≤ 9 → r ≤ 8
placed i rows first step r e h g = omega (arith, e, place-high i rows first step h)

-- a part of a list
part-long : (p : List ℤ) (r k : ℕ) → k ≡ 64 → length p ≡ 128 → r ≤ 8 → length (take k (drop (r * 8) p)) ≡ 64
part-long p r k e n h = grind (arith, places, e, n, h)

row-long : (z : List ℤ) (from k : ℕ) → k ≡ 64 → from + 64 ≤ length z → length (take k (drop from z)) ≡ 64
row-long z from k e h = grind (arith, places, e, h)

part-within : (z : List ℤ) (from k : ℕ) {w : ℕ} → Within z w → Within (take k (drop from z)) w
part-within z from k {w} h = record { all = λ i. go i (dec_lt i k) }
  where
    go : (i : ℕ) → Dec (i < k) → nat_abs (get_or (take k (drop from z)) i (pos 0)) ≤ w
    go i (yes l) = rw (get_or-take k (drop from z) i (pos 0) l, get_or-drop from z i (pos 0)) (h.all (from + i))
    go i (no l) =
        let b : length (take k (drop from z)) ≤ i = grind (arith, places, l) in
        rw (get_or-eq_default (take k (drop from z)) (pos 0) {n = i} b) (omega arith)

pub loop-i-init : goal.loop-i-init
loop-i-init c = ((unfold upto sum_ℤ in refl), omega arith)

pub place-to-requires : goal.place-to-requires
place-to-requires c = (c.loop-i-test.true, omega arith)

pub overflow_mul-to : goal.overflow_mul-to
overflow_mul-to c = omega (arith, placed _ _ _ _ _ c.place-to.ensures c.loop-i-test.true c.requires.1)

pub overflow_mul-p : goal.overflow_mul-p
overflow_mul-p c = omega (arith, placed _ _ _ _ _ c.place-to.ensures c.loop-i-test.true c.requires.1)

pub overflow_add-to : goal.overflow_add-to
overflow_add-to c = omega (arith, placed _ _ _ _ _ c.place-to.ensures c.loop-i-test.true c.requires.1)

pub offset_bounds-p-to : goal.offset_bounds-p-to
offset_bounds-p-to c = omega (arith, placed _ _ _ _ _ c.place-to.ensures c.loop-i-test.true c.requires.1)

pub slice_bounds-p-end : goal.slice_bounds-p-end
slice_bounds-p-end c = omega (arith, placed _ _ _ _ _ c.place-to.ensures c.loop-i-test.true c.requires.1)

pub added-requires : goal.added-requires
added-requires c = let p = c.loop-i in
    let h = placed _ _ _ _ _ c.place-to.ensures c.loop-i-test.true c.requires.1 in
    let n : length p.p ≡ 128 = ap length p.invariant.0 ∙ length-upto _ 128 in
    let w : Within p.p 2048 = rw p.invariant.0 (sums-within _ _ _ _ _ c.requires.3 (omega arith)) in
    let r : c.loop-i.i * 64 + 64 ≤ length c.args.z.now = omega arith in
    record { sides = (part-long _ _ _ (omega arith) n h, row-long _ _ _ (omega arith) r); within = (part-within _ _ _ w, part-within _ _ _ c.requires.3) }

pub loop-i-preserved : goal.loop-i-preserved
loop-i-preserved c = let p = c.loop-i in
    let h = placed _ _ _ _ _ c.place-to.ensures c.loop-i-test.true c.requires.1 in
    let n : length p.p ≡ 128 = ap length p.invariant.0 ∙ length-upto _ 128 in
    let r : c.loop-i.i * 64 + 64 ≤ length c.args.z.now = omega arith in
    (sums-more _ _ _ _ _ _ _ p.invariant.0 (rw (← c.place-to.ensures) (added-mid _ _ _ _ _ _ _ (omega arith) (omega arith) n (omega (arith, h)) r c.added.ensures)), omega arith)

pub returns : goal.returns
returns c = unfold lane_lines in let e : c.loop-i.i ≡ c.args.rows = omega arith in c.loop-i.invariant.0 ∙ rw e
