-- What the parts say: the error code of a first part is the call's; where it passes, facts follow.
use Rattle.std.specs.Prelude.{◌≡◌, true, cond, ◌&&◌, List, [], ◌∷◌, ℕ, ◌+◌, ◌-◌, ◌*◌, ◌/◌, ◌%◌, ◌^◌, ◌≤◌, ◌<◌, min, leb, ltb, eqb, length}
use Rattle.std.proofs.Common.{◌∙◌, mul-le-mul, mul-le-mul_right, div-add-mod', arith, pow_mono}
use borrow.Author.Tests.{leb-true, ltb-true, ne_eqb}
use Rattle.cdef_spec.specs.declared.Block.{Block}
use Rattle.cdef_spec.specs.declared.FilterParams.{FilterParams}
use Rattle.cdef_spec.specs.WordsLaws.{and_both}
use Rattle.cdef_spec.specs.Document01.{Plane, filtered}
use Rattle.cdef_spec.specs.Answers.{taken, refused, nothing, result_of}
use Rattle.cdef_spec.specs.Questions.{ask, first_no, depth_taken, side_taken, full, corner_taken, block_side_taken, block_taken, rows_taken, working_taken, params_taken, widened_taken}
use Rattle.cdef_spec.specs.QuestionLaws.{first-yes, first-join, none, more, depth-high}
use Rattle.cdef_spec.specs.BlockCalls.{filter_no, filter_outcome}
use Rattle.cdef_spec.specs.LoopForm.{put_block}
use Rattle.filter_block.specs.Store.{Usable}
use Rattle.filter_block.specs.TableLaws.{block-table}
use Rattle.check_block.specs.Parts.{filter_first}
use Rattle.check_sides.specs.SideLaws.{side-le, full-length, corner-low, block-side-le}

-- ---- 1, 2 and 4

pub record PlaneFacts (p : Plane) (depth : ℕ) : Type 0 where
  pub deep : 8 ≤ depth
  pub flat : depth ≤ 12
  pub w-low : 1 ≤ p.width
  pub wide : p.width ≤ 4096
  pub h-low : 1 ≤ p.height
  pub high : p.height ≤ 4096
  pub full_is : length p.samples ≡ p.width * p.height

pub plane-facts : (p : Plane) (depth : ℕ) → depth_taken depth ≡ true → side_taken p.width && side_taken p.height ≡ true → full p ≡ true → PlaneFacts p depth
plane-facts p depth d s f =
    let e = depth-high depth d in
    let b = and_both (side_taken p.width) (side_taken p.height) s in
    let w = side-le p.width b.0 in
    let h = side-le p.height b.1 in
    record { deep = e.0; flat = e.1; w-low = w.0; wide = w.1; h-low = h.0; high = h.1; full_is = full-length p f }

-- ---- 5

pub record BlockFacts (p : Plane) (b : Block) : Type 0 where
  pub x-in : b.x < p.width
  pub y-in : b.y < p.height
  pub bw : b.width ≤ 8
  pub bh : b.height ≤ 8

pub block-facts : (p : Plane) (b : Block) → block_taken p b ≡ true → BlockFacts p b
unfolding block_taken
block-facts p b e =
    let s = and_both (corner_taken p b.y b.x) (block_side_taken b.width && block_side_taken b.height) e in
    let c = corner-low p b.y b.x s.0 in
    let d = and_both (block_side_taken b.width) (block_side_taken b.height) s.1 in
    record { x-in = c.0; y-in = c.1; bw = block-side-le b.width d.0; bh = block-side-le b.height d.1 }

-- ---- 6 and 8

pub rows-facts : (p : Plane) (b : Block) (y0 : ℕ) (dst : List ℕ) → b.y < p.height → rows_taken p b y0 dst ≡ true → (y0 ≤ b.y) × ((b.y - y0 + min b.height (p.height - b.y)) * p.width ≤ length dst)
unfolding rows_taken
rows-facts p b y0 dst hy e =
    let s = and_both (eqb (length dst % p.width) 0) (leb y0 b.y && leb (min (b.y + b.height) p.height) (y0 + length dst / p.width)) e in
    let t = and_both (leb y0 b.y) (leb (min (b.y + b.height) p.height) (y0 + length dst / p.width)) s.1 in
    let a : y0 ≤ b.y = leb-true y0 b.y t.0 in
    let k : min (b.y + b.height) p.height ≤ y0 + length dst / p.width = leb-true (min (b.y + b.height) p.height) (y0 + length dst / p.width) t.1 in
    let m : b.y - y0 + min b.height (p.height - b.y) ≤ length dst / p.width = omega arith in
    (a, omega (arith, mul-le-mul_right p.width m, div-add-mod' (length dst) p.width))

pub params-facts : (q : FilterParams) → 8 ≤ q.depth → q.depth ≤ 12 → params_taken q ≡ true → Usable q
unfolding params_taken working_taken
params-facts q lo hi e =
    let s = and_both (leb q.pri (15 * 2 ^ (q.depth - 8)) && leb q.sec (4 * 2 ^ (q.depth - 8))) (ltb q.dir 8 && leb q.damping.0 31) e in
    let t = and_both (leb q.pri (15 * 2 ^ (q.depth - 8))) (leb q.sec (4 * 2 ^ (q.depth - 8))) s.0 in
    let u = and_both (ltb q.dir 8) (leb q.damping.0 31) s.1 in
    let k : q.depth - 8 ≤ 4 = omega arith in
    let l : 2 ^ (q.depth - 8) ≤ 2 ^ 4 = pow_mono {i = q.depth - 8} {j = 4} k in
    let m : 15 ≤ 15 = omega arith in
    let n : 4 ≤ 4 = omega arith in
    let a : 15 * 2 ^ (q.depth - 8) ≤ 15 * 2 ^ 4 = mul-le-mul m l in
    let c : 4 * 2 ^ (q.depth - 8) ≤ 4 * 2 ^ 4 = mul-le-mul n l in
    record {
      pri = omega (arith, leb-true q.pri (15 * 2 ^ (q.depth - 8)) t.0);
      sec = omega (arith, leb-true q.sec (4 * 2 ^ (q.depth - 8)) t.1);
      dir = ltb-true q.dir 8 u.0;
      damping = leb-true q.damping.0 31 u.1;
      deep = lo;
      flat = hi;
    }

-- ---- the block filter

pub record FilterFacts (p : Plane) (b : Block) (q : FilterParams) (y0 : ℕ) (dst : List ℕ) : Type 0 where
  pub plane : PlaneFacts p q.depth
  pub block : BlockFacts p b
  pub start : y0 ≤ b.y
  pub room : (b.y - y0 + min b.height (p.height - b.y)) * p.width ≤ length dst
  pub usable : Usable q

module _ (p : Plane) (b : Block) (q : FilterParams) (y0 : ℕ) (dst : List ℕ) where
  pub filter-facts : first_no (filter_first p b q y0 dst) ≡ 0 → FilterFacts p b q y0 dst
  filter-facts z =
      let a = first-yes _ _ (λ e. omega arith) z in
      let c = first-yes _ _ (λ e. omega arith) a.1 in
      let d = first-yes _ _ (λ e. omega arith) c.1 in
      let f = first-yes _ _ (λ e. omega arith) d.1 in
      let g = first-yes _ _ (λ e. omega arith) f.1 in
      let h = first-yes _ _ (λ e. omega arith) g.1 in
      let k = plane-facts p q.depth a.0 c.0 d.0 in
      let l = block-facts p b f.0 in
      let m = rows-facts p b y0 dst l.y-in g.0 in
      record { plane = k; block = l; start = m.0; room = m.1; usable = params-facts q k.deep k.flat h.0 }

  -- all seven, by the first six
  filter-no : filter_no p b q y0 dst ≡ cond (eqb (first_no (filter_first p b q y0 dst)) 0) (first_no (ask 9 (widened_taken p q.depth b) ∷ [])) (first_no (filter_first p b q y0 dst))
  unfolding filter_no
  filter-no = first-join (filter_first p b q y0 dst) (ask 9 (widened_taken p q.depth b) ∷ []) (more (λ e. omega arith) (more (λ e. omega arith) (more (λ e. omega arith) (more (λ e. omega arith) (more (λ e. omega arith) (more (λ e. omega arith) none))))))

  pub filter-refused : (n : ℕ) → n ≡ first_no (filter_first p b q y0 dst) → (n ≡ 0 → ⊥) → filter_outcome p b q y0 dst ≡ record { answer = refused n; dst = dst }
  unfolding filter_outcome result_of
  filter-refused n e h = rw (filter-no, ← e, ne_eqb n 0 h) (rw (ne_eqb n 0 h))

  pub filter-samples : first_no (filter_first p b q y0 dst) ≡ 0 → (n : ℕ) → n ≡ first_no (ask 9 (widened_taken p q.depth b) ∷ []) → (n ≡ 0 → ⊥) → filter_outcome p b q y0 dst ≡ record { answer = refused n; dst = dst }
  unfolding filter_outcome result_of
  filter-samples z n e h = rw (filter-no, z, ← e, ne_eqb n 0 h)

  pub filter-done : first_no (filter_first p b q y0 dst) ≡ 0 → widened_taken p q.depth b ≡ true → (last : List ℕ)
      → last ≡ put_block dst p.width (λ r c. filtered p q (y0 + r) c) (b.y - y0) b.x (min b.width (p.width - b.x)) (min b.height (p.height - b.y))
      → filter_outcome p b q y0 dst ≡ record { answer = taken nothing; dst = last }
  unfolding filter_outcome result_of first_no
  filter-done z e last l =
      let f = filter-facts z in
      let t = l ∙ block-table p b q y0 dst f.block.x-in f.start in
      rw (filter-no, z, e, t)
