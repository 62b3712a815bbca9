-- `plane_block::filter_inside` meets its contract.
use Rattle.std.proofs.Common.{◌≡◌, refl, ◌∙◌, arith, ⊎_elim, mul-le-mul, List, ℕ, ◌+◌, ◌-◌, ◌*◌, ◌^◌, ◌≤◌, ◌<◌}
use Rattle.std.specs.Prelude.{max}
use Rattle.cdef_spec.specs.declared.full.FullPlane.{FullPlane}
use Rattle.cdef_spec.specs.declared.Block.{Block}
use Rattle.cdef_spec.specs.declared.FilterParams.{FilterParams}
use Rattle.cdef_spec.specs.Standard.{Tap}
use Rattle.cdef_spec.specs.LoopForm.{put_block}
use Rattle.cdef_spec.specs.Lent.{plane_in_full}
use Rattle.filter_rows.specs.declared.Strength.{Strength}
use Rattle.filter_rows.specs.Sums.{InRange}
use Rattle.filter_window.specs.Spans.{BeginsIn}
use Rattle.filter_window.specs.WindowLaws.{window-held}
use Rattle.filter_kernel.specs.Kernel.{pri_of, sec_of}
use Rattle.filter_block.specs.Store.{Usable}
use Rattle.plane_taps.specs.Plain.{AllLow}
use Rattle.plane_rows.specs.Rows.{Stored}
use Rattle.plane_taps.specs.Steps.{taps_in}
use Rattle.plane_block.specs.Inside.{Sided, Inner, Weighted, block_from, params_from, stored_block}
use Rattle.plane_block.specs.PlaneLaws.{block-two, stored, pri-passed, sec-passed, pri-range, sec-range, around-row, around-four, room}
use Rattle.plane_block.specs.RowLaws.{near-least}
use Rattle.plane_block.proofs.filter_inside.Goals as goal

-- the lower half's place, and both halves
two-parts : (y y0 w : ℕ) → y0 ≤ y → (y + 4 - y0) * w ≡ (y - y0) * w + 4 * w
two-parts y y0 w h = let e : y + 4 - y0 ≡ (y - y0) + 4 = omega arith in rw e (omega arith)

two-halves : (d mid last : List ℕ) (w : ℕ) (F : ℕ → ℕ → Tap) (y z x : ℕ) → mid ≡ put_block d w F y x 4 4 → last ≡ put_block mid w F z x 4 4 → z ≡ y + 4 → last ≡ put_block d w F y x 4 8
two-halves d mid last w F y z x a b e = b ∙ rw (e, a) (block-two d w F y x 4 4 4)

-- the strengths
module _ (q : FilterParams) (d : ℕ) (f g : Strength) (ef : f ≡ pri_of q.pri d q.depth) (eg : g ≡ sec_of q.sec d) where
  ranges : Usable q → InRange f × InRange g
  ranges u = (rw ef (pri-range q.pri q.sec d q.depth u.pri), rw eg (sec-range q.pri q.sec d q.depth u.sec))

  weighted : Weighted f g
  weighted = record { least = rw ef (near-least _ _ _); pri = rw ef (pri-passed q.pri q.sec _ q.depth); sec = rw eg (sec-passed q.pri q.sec _ q.depth) }

  pri-is : d ≡ max 1 q.damping.0 → f ≡ pri_of q.pri (max 1 q.damping.0) q.depth
  pri-is e = ef ∙ rw e

  sec-is : d ≡ max 1 q.damping.0 → g ≡ sec_of q.sec (max 1 q.damping.0)
  sec-is e = eg ∙ rw e

-- a block's first sample
first : (p : FullPlane) (b : Block) → BeginsIn p b → b.y * p.width + b.x < 2 ^ 25
first p b i =
    let y : b.y ≤ 4096 = omega (arith, i.y-in, p.sides.1) in
    let m : b.y * p.width ≤ 4096 * 4096 = mul-le-mul y p.sides.0 in
    omega (arith, i.x-in, p.sides.0)

-- sides of 4 or 8
four : {n : ℕ} → Sided n → 4 ≤ n
four s = ⊎_elim (λ e. omega arith) (λ e. omega arith) s.side

whole : {n : ℕ} → Sided n → (n ≡ 4 → ⊥) → n ≡ 8
whole s k = ⊎_elim (λ e. absurd (k e)) (λ e. e) s.side

half : {n : ℕ} → Sided n → (n ≡ 8 → ⊥) → n ≡ 4
half s k = ⊎_elim (λ e. e) (λ e. absurd (k e)) s.side

-- what is stored of a block's rows from y1 on
module _ (p : FullPlane) (b : Block) (q : FilterParams) (y0 : ℕ) (i : BeginsIn p b) (low : AllLow p.samples.now) (u : Usable q) (n : Inner p.width p.height b.x b.y b.width b.height) where
  part : (y1 at to cols rows : ℕ) (f g : Strength) (d last : List ℕ) → y0 ≤ y1 → b.y ≤ y1 → cols ≤ b.width → y1 + rows ≤ b.y + b.height → to ≡ (y1 - y0) * p.width + b.x → at ≡ y1 * p.width + b.x
      → f ≡ pri_of q.pri (max 1 q.damping.0) q.depth → g ≡ sec_of q.sec (max 1 q.damping.0) → Stored p.samples.now d last p.width at to (taps_in p.width q.dir) f g cols rows
      → last ≡ stored_block d p q y0 y1 b.x cols rows
  unfolding plane_in_full
  part y1 at to cols rows f g d last l m hc hn et ea ef eg s =
      stored p.samples.now p.width p.height b q y0 y1 p.sides.0 p.sides.1 i.bw i.bh n.left n.top n.right n.bottom l m u.dir (window-held _ (λ k. omega (arith, low.all k)) _) d last to at cols rows f g hc hn et ea ef eg s.block

pub overflow_mul-at : goal.overflow_mul-at
overflow_mul-at c = omega (arith, first _ _ c.requires.begins.0)

pub overflow_add-at : goal.overflow_add-at
overflow_add-at c = omega (arith, first _ _ c.requires.begins.0)

pub eight_wide-requires : goal.eight_wide-requires
eight_wide-requires c =
    let p = c.args.src.now in
    let r = c.requires.begins in
    let s = c.requires.rows_fit in record {
      all_low = (r.1, p.sides.0, s.3, r.2.dir, (ranges (params_from c.args.pri c.args.sec c.args.dir c.args.damping c.args.depth) _ _ _ c.primary-f.ensures c.secondary-g.ensures r.2).0, (ranges (params_from c.args.pri c.args.sec c.args.dir c.args.damping c.args.depth) _ _ _ c.primary-f.ensures c.secondary-g.ensures r.2).1, weighted (params_from c.args.pri c.args.sec c.args.dir c.args.damping c.args.depth) _ _ _ c.primary-f.ensures c.secondary-g.ensures, r.3);
      rows_inside = λ i h. (around-row _ _ _ _ _ _ _ p.full p.sides.0 p.sides.1 s.4 _ i r.2.dir h c.if-bw-eq8.true, room _ _ _ _ _ i 8 s.1 h (omega (arith, s.4.right, c.if-bw-eq8.true)));
    }

pub returns-then-bw-eq8 : goal.returns-then-bw-eq8
returns-then-bw-eq8 c =
    let r = c.requires.begins in
    let v : c.args.bw ≡ 8 = c.if-bw-eq8.true in
    let f = c.primary-f.result in
    let g = c.secondary-g.result in
    rw v (part _ (block_from c.args.x c.args.y c.args.bw c.args.bh) (params_from c.args.pri c.args.sec c.args.dir c.args.damping c.args.depth) c.args.y0 r.0 r.1 r.2 c.requires.rows_fit.4 _ _ _ _ _ _ _ _ _ c.requires.rows_fit.0 (omega arith) (omega arith) (omega arith) refl refl (pri-is (params_from c.args.pri c.args.sec c.args.dir c.args.damping c.args.depth) _ f g c.primary-f.ensures c.secondary-g.ensures c.from_one-d.ensures) (sec-is (params_from c.args.pri c.args.sec c.args.dir c.args.damping c.args.depth) _ f g c.primary-f.ensures c.secondary-g.ensures c.from_one-d.ensures) c.eight_wide.ensures)

pub rows-requires : goal.rows-requires
rows-requires c =
    let p = c.args.src.now in
    let r = c.requires.begins in
    let s = c.requires.rows_fit in
    let a = c.args in
    let e : a.y * p.width + a.x + 0 * p.width ≡ a.y * p.width + a.x = omega arith in record {
      all_low = (r.1, p.sides.0, r.2.dir, (ranges (params_from c.args.pri c.args.sec c.args.dir c.args.damping c.args.depth) _ _ _ c.primary-f.ensures c.secondary-g.ensures r.2).0, (ranges (params_from c.args.pri c.args.sec c.args.dir c.args.damping c.args.depth) _ _ _ c.primary-f.ensures c.secondary-g.ensures r.2).1);
      around = (rw e at (around-four _ _ a.x a.y _ _ _ p.full p.sides.0 p.sides.1 s.4 c.args.dir 0 r.2.dir (omega (arith, four s.3)) (four s.2)), omega (arith, room p.width a.x (a.y - c.args.y0) _ _ 3 4 s.1 (omega (arith, four s.3)) (omega (arith, s.4.right, four s.2))));
    }

pub returns-then-bh-eq4 : goal.returns-then-bh-eq4
returns-then-bh-eq4 c =
    let r = c.requires.begins in
    let k : c.args.bh ≡ 4 = c.if-bh-eq4.true in
    let v : c.args.bw ≡ 4 = half c.requires.rows_fit.2 c.if-bw-eq8.false in
    let f = c.primary-f.result in
    let g = c.secondary-g.result in
    rw (k, v) (part _ (block_from c.args.x c.args.y c.args.bw c.args.bh) (params_from c.args.pri c.args.sec c.args.dir c.args.damping c.args.depth) c.args.y0 r.0 r.1 r.2 c.requires.rows_fit.4 _ _ _ _ _ _ _ _ _ c.requires.rows_fit.0 (omega arith) (omega arith) (omega arith) refl refl (pri-is (params_from c.args.pri c.args.sec c.args.dir c.args.damping c.args.depth) _ f g c.primary-f.ensures c.secondary-g.ensures c.from_one-d.ensures) (sec-is (params_from c.args.pri c.args.sec c.args.dir c.args.damping c.args.depth) _ f g c.primary-f.ensures c.secondary-g.ensures c.from_one-d.ensures) c.rows.ensures)

pub overflow_add-at-2 : goal.overflow_add-at-2
overflow_add-at-2 c = omega (arith, first _ _ c.requires.begins.0, c.args.src.now.sides.0)

pub rows-requires-2 : goal.rows-requires-2
rows-requires-2 c =
    let p = c.args.src.now in
    let r = c.requires.begins in
    let s = c.requires.rows_fit in
    let a = c.args in
    let k : a.bh ≡ 8 = whole s.3 c.if-bh-eq4.false in record {
      all_low = (r.1, p.sides.0, r.2.dir, (ranges (params_from c.args.pri c.args.sec c.args.dir c.args.damping c.args.depth) _ _ _ c.primary-f.ensures c.secondary-g.ensures r.2).0, (ranges (params_from c.args.pri c.args.sec c.args.dir c.args.damping c.args.depth) _ _ _ c.primary-f.ensures c.secondary-g.ensures r.2).1);
      around = (around-four _ _ a.x a.y _ _ _ p.full p.sides.0 p.sides.1 s.4 c.args.dir 4 r.2.dir (omega arith) (four s.2), omega (arith, room p.width a.x (a.y - c.args.y0) _ _ 7 4 s.1 (omega arith) (omega (arith, s.4.right, four s.2)), c.rows.auto.dst));
    }

pub returns : goal.returns
returns c =
    let r = c.requires.begins in
    let s = c.requires.rows_fit in
    let a = c.args in
    let k : a.bh ≡ 8 = whole s.3 c.if-bh-eq4.false in
    let v : a.bw ≡ 4 = half s.2 c.if-bw-eq8.false in
    let f = c.primary-f.result in
    let g = c.secondary-g.result in
    let m = pri-is (params_from c.args.pri c.args.sec c.args.dir c.args.damping c.args.depth) _ f g c.primary-f.ensures c.secondary-g.ensures c.from_one-d.ensures in
    let n = sec-is (params_from c.args.pri c.args.sec c.args.dir c.args.damping c.args.depth) _ f g c.primary-f.ensures c.secondary-g.ensures c.from_one-d.ensures in
    let z : (a.y + 4 - c.args.y0) * c.args.src.now.width ≡ (a.y - c.args.y0) * c.args.src.now.width + 4 * c.args.src.now.width = two-parts a.y c.args.y0 _ s.0 in
    let top = part _ (block_from c.args.x c.args.y c.args.bw c.args.bh) (params_from c.args.pri c.args.sec c.args.dir c.args.damping c.args.depth) c.args.y0 r.0 r.1 r.2 s.4 a.y _ _ _ _ _ _ _ _ s.0 (omega arith) (omega arith) (omega arith) refl refl m n c.rows.ensures in
    let bottom = part _ (block_from c.args.x c.args.y c.args.bw c.args.bh) (params_from c.args.pri c.args.sec c.args.dir c.args.damping c.args.depth) c.args.y0 r.0 r.1 r.2 s.4 (a.y + 4) _ _ _ _ _ _ _ _ (omega arith) (omega arith) (omega arith) (omega arith) (omega arith) (omega arith) m n c.rows-2.ensures in
    rw (k, v) (two-halves _ _ _ _ _ _ _ _ top bottom (omega arith))
