-- `trial_strips::strips` meets its contract.
use mathlib.Core.Path.{◌≡◌, refl, ◌∙◌}
use mathlib.Core.Logic.{◌⊎◌}
use Prim.Native.Nat.{ℕ, ◌+◌, ◌*◌, ◌≤◌, ◌<◌}
use native.Mathlib.Omega.{arith}
use mathlib.Core.List.{List}
use lib.ListN.{length, get_or, set, length-set}
use Rattle.trial_strips.specs.Strips.{Filled}
use Rattle.trial_strips.specs.FillLaws.{row_in, row-end, wide, four, count, no-entry, fill_none, fill_more, fill-row, fill-same, fill-all, stripped, stripped-all, at_same, four-at, next-at}
use Rattle.trial_strips.proofs.strips.Goals as goal
use Rattle.trial_strips.proofs.strips.Goals.{Joined-w-eq8, else-w-eq8, then-w-eq8+else-loop-j-then-w-eq8-test}

-- an entry of the row that is filled
put : (win : List ℕ) (w n x i : ℕ) (out : List ℕ) (j v : ℕ) → x < 5 → i < n → n ≤ 12 → (w ≡ 4) ⊎ (w ≡ 8) → Filled win w n (x * n + i) j out → length out ≡ 480 → j < w
    → v ≡ get_or win (i * 12 + x + j) 0 → Filled win w n (x * n + i) (j + 1) (set out ((x * n + i) * w + j) v)
put win w n x i out j v hx hi hn e f l h k = fill_more win w n out x i j v f hi h (omega (arith, row-end x n i w hx hi hn e, l)) (k ∙ at_same win i x j)

-- and one behind the first four
put-next : (win : List ℕ) (w n x i : ℕ) (out : List ℕ) (j v : ℕ) → x < 5 → i < n → n ≤ 12 → (w ≡ 4) ⊎ (w ≡ 8) → Filled win w n (x * n + i) (4 + j) out → length out ≡ 480 → 4 + j < w
    → v ≡ get_or win (i * 12 + x + (4 + j)) 0 → Filled win w n (x * n + i) (4 + (j + 1)) (set out ((x * n + i) * w + 4 + j) v)
put-next win w n x i out j v hx hi hn e f l h k =
    let a : (x * n + i) * w + 4 + j ≡ (x * n + i) * w + (4 + j) = omega arith in
    let b : 4 + (j + 1) ≡ 4 + j + 1 = omega arith in
    rw (a, b) (put win w n x i out (4 + j) v hx hi hn e f l h k)

pub loop-x-init : goal.loop-x-init
loop-x-init c = (fill-same _ _ _ _ 0 _ (omega arith) (fill_none _ _ _ _ (no-entry 480)), refl, omega arith)

pub loop-i-init : goal.loop-i-init
loop-i-init c = let p = c.before in (fill-same _ _ _ _ _ _ (omega arith) p.loop-x.invariant.0, p.loop-x.invariant.1, omega arith)

pub overflow_mul-to : goal.overflow_mul-to
overflow_mul-to c = omega (arith, row-end c.loop-x.x c.args.n c.loop-i.i c.args.w (omega arith) (omega arith) c.requires.1 c.requires.0, row_in c.loop-x.x c.args.n c.loop-i.i (omega arith) (omega arith) c.requires.1)

pub overflow_add-to : goal.overflow_add-to
overflow_add-to c = omega (arith, row-end c.loop-x.x c.args.n c.loop-i.i c.args.w (omega arith) (omega arith) c.requires.1 c.requires.0, row_in c.loop-x.x c.args.n c.loop-i.i (omega arith) (omega arith) c.requires.1)

pub overflow_mul-to-in-loop-i : goal.overflow_mul-to-in-loop-i
overflow_mul-to-in-loop-i c = omega (arith, row-end c.loop-x.x c.args.n c.loop-i.i c.args.w (omega arith) (omega arith) c.requires.1 c.requires.0)

pub overflow_mul-from : goal.overflow_mul-from
overflow_mul-from c = omega (arith, c.requires.1)

pub overflow_add-from : goal.overflow_add-from
overflow_add-from c = omega (arith, c.requires.1)

pub loop-j-init : goal.loop-j-init
loop-j-init c = let p = c.before in (p.loop-i.invariant.0, p.loop-i.invariant.1, omega arith)

pub offset_bounds-win-from : goal.offset_bounds-win-from
offset_bounds-win-from c = omega (arith, c.requires.1)

pub offset_bounds-out-to : goal.offset_bounds-out-to
offset_bounds-out-to c = omega (arith, row-end c.loop-x.x c.args.n c.loop-i.i c.args.w (omega arith) (omega arith) c.requires.1 c.requires.0, wide c.args.w c.requires.0)

pub bounds-out-to : goal.bounds-out-to
bounds-out-to c = omega (arith, row-end c.loop-x.x c.args.n c.loop-i.i c.args.w (omega arith) (omega arith) c.requires.1 c.requires.0, wide c.args.w c.requires.0)

pub overflow_add-out : goal.overflow_add-out
overflow_add-out c = omega (arith, row-end c.loop-x.x c.args.n c.loop-i.i c.args.w (omega arith) (omega arith) c.requires.1 c.requires.0, wide c.args.w c.requires.0)

pub overflow_add-out-in-loop-j-then-w-eq8 : goal.overflow_add-out-in-loop-j-then-w-eq8
overflow_add-out-in-loop-j-then-w-eq8 c = omega (arith, row-end c.loop-x.x c.args.n c.loop-i.i c.args.w (omega arith) (omega arith) c.requires.1 c.requires.0, c.if-w-eq8.true)

pub offset_bounds-win-from-then-w-eq8 : goal.offset_bounds-win-from-then-w-eq8
offset_bounds-win-from-then-w-eq8 c = omega (arith, c.requires.1)

pub loop-j-preserved : goal.loop-j-preserved
loop-j-preserved c = let i = c.loop-j.invariant in (put _ _ _ _ _ _ _ _ (omega arith) (omega arith) c.requires.1 c.requires.0 i.0 i.1 (omega (arith, wide c.args.w c.requires.0)) (four-at c.args.win.now (c.loop-i.i * 12 + c.loop-x.x) c.loop-i.i c.loop-x.x c.loop-j.j refl (omega arith)), simp length-set i.1, omega arith)

pub loop-j-then-w-eq8-preserved : goal.loop-j-then-w-eq8-preserved
loop-j-then-w-eq8-preserved c = let i = c.loop-j-then-w-eq8.invariant in (put-next _ _ _ _ _ _ _ _ (omega arith) (omega arith) c.requires.1 c.requires.0 i.0 i.1 (omega (arith, c.if-w-eq8.true)) (next-at c.args.win.now (c.loop-i.i * 12 + c.loop-x.x) c.loop-i.i c.loop-x.x c.loop-j-then-w-eq8.j refl (omega arith)), simp length-set i.1, omega arith)

pub loop-j-then-w-eq8-init : goal.loop-j-then-w-eq8-init
loop-j-then-w-eq8-init c = let p = c.before.before in (count _ _ _ _ _ _ _ p.loop-j.invariant.0 (omega arith), p.loop-j.invariant.1, omega arith)

pub overflow_add-out-in-loop-j-then-w-eq8-2 : goal.overflow_add-out-in-loop-j-then-w-eq8-2
overflow_add-out-in-loop-j-then-w-eq8-2 c = omega (arith, row-end c.loop-x.x c.args.n c.loop-i.i c.args.w (omega arith) (omega arith) c.requires.1 c.requires.0, c.if-w-eq8.true)

pub offset_bounds-out-to-in-loop-j-then-w-eq8 : goal.offset_bounds-out-to-in-loop-j-then-w-eq8
offset_bounds-out-to-in-loop-j-then-w-eq8 c = omega (arith, row-end c.loop-x.x c.args.n c.loop-i.i c.args.w (omega arith) (omega arith) c.requires.1 c.requires.0, c.if-w-eq8.true)

pub bounds-out-to-in-loop-j-then-w-eq8 : goal.bounds-out-to-in-loop-j-then-w-eq8
bounds-out-to-in-loop-j-then-w-eq8 c = omega (arith, row-end c.loop-x.x c.args.n c.loop-i.i c.args.w (omega arith) (omega arith) c.requires.1 c.requires.0, c.if-w-eq8.true)

-- a row of four or of eight entries
row_done : (c : Joined-w-eq8) → Filled c.args.win.now c.args.w c.args.n (c.loop-x.x * c.args.n + c.loop-i.i + 1) 0 c.if-w-eq8.out × (length c.if-w-eq8.out ≡ 480)
row_done c =
    elim c.if-w-eq8.branch [
      | then-w-eq8+else-loop-j-then-w-eq8-test w ↦ rw w.out-is (fill-row _ _ _ _ _ _ (omega arith) w.loop-j-then-w-eq8.invariant.0, w.loop-j-then-w-eq8.invariant.1)
      | else-w-eq8 w ↦ rw w.out-is (fill-row _ _ _ _ _ _ (omega (arith, four _ c.requires.0 w.if-w-eq8.false)) c.loop-j.invariant.0, c.loop-j.invariant.1)
    ]

pub loop-i-preserved : goal.loop-i-preserved
loop-i-preserved c = let d = row_done c in (fill-same _ _ _ _ _ _ (omega arith) d.0, d.1, omega arith)

pub loop-x-preserved : goal.loop-x-preserved
loop-x-preserved c = let p = c.before in (fill-same _ _ _ _ _ _ (stripped _ _ _ (omega arith)) p.loop-i.invariant.0, p.loop-i.invariant.1, omega arith)

pub returns : goal.returns
returns c = let p = c.before in fill-all _ _ _ _ _ (stripped-all _ _ (omega arith)) p.loop-x.invariant.1 p.loop-x.invariant.0
