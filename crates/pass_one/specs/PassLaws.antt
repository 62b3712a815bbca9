-- A plane whose samples all fit the depth, a block's index in the lists, and the lists once they are filled.
use Rattle.std.specs.Prelude.{◌≡◌, true, List, ℕ, ◌+◌, ◌*◌, ◌/◌, ◌%◌, ◌^◌, ◌≤◌, ◌<◌, suc, get_or, length, take, set}
use Rattle.std.proofs.Common.{sym, ◌∙◌, arith, lt-ltb, ext_get_or, mul-le-mul}
use Rattle.std.proofs.Math.Arith.{digits_div, digits_mod, digits_lt}
use Rattle.cdef_spec.specs.Words.{table}
use Rattle.cdef_spec.specs.WordsLaws.{length-table, get_or-table, every-make}
use Rattle.cdef_spec.specs.declared.full.FullPlane.{FullPlane}
use Rattle.cdef_spec.specs.Lent.{plane_in_full}
use Rattle.cdef_spec.specs.Document01.{Plane, block_direction, block_variance}
use Rattle.cdef_spec.specs.Questions.{sample_taken, looked_at, cut_taken}
use Rattle.arith_sample.specs.Upto.{upto, length-upto, get_or-upto, upto-none, upto-more, upto-at, upto_all}
use Rattle.pass_one.specs.Pass.{PassIn, Filled}

-- where every sample fits the depth, so do those of each block
pub low-cut : (p : Plane) (depth y x : ℕ) → ((k : ℕ) → get_or p.samples k 0 < 2 ^ depth) → cut_taken p depth y x ≡ true
unfolding cut_taken looked_at sample_taken
low-cut p depth y x h = every-make _ _ (λ i a. every-make _ _ (λ j b. lt-ltb _ (2 ^ depth) (h _)))

-- the block in row by and column bx of the blocks has the index by * cols + bx
pub at_block : (f : ℕ → ℕ → ℕ) (cols by bx : ℕ) → bx < cols → f (by * 8) (bx * 8) ≡ f ((by * cols + bx) / cols * 8) ((by * cols + bx) % cols * 8)
at_block f cols by bx h = rw (digits_div by {m = cols} {r = bx} h, digits_mod by {m = cols} {r = bx} h)

-- a filled list
pub filled : (f : ℕ → ℕ) (l : List ℕ) (n j : ℕ) → take j l ≡ upto f j → length l ≡ n → j ≡ n → l ≡ table n f
filled f l n j e h g =
    upto_all f l n j e h g
    ∙ ext_get_or 0 (upto f n) (table n f) (length-upto f n ∙ sym (length-table n f)) (λ k b. let c : k < n = omega (arith, length-upto f n) in get_or-upto f n k 0 c ∙ sym (get_or-table n f 0 k c))

-- ---- the lists, filled further

-- lists of the same lengths
pub pass_same : {p : Plane} {depth : ℕ} {dirs vars ds vs : List ℕ} → PassIn p depth dirs vars → length ds ≡ length dirs → length vs ≡ length vars
    → PassIn p depth ds vs
pass_same q ed ev = record {
  dirs-size = ed ∙ q.dirs-size;
  vars-size = ev ∙ q.vars-size;
  depth_low = q.depth_low;
  depth-high = q.depth-high;
  low = q.low;
}

module _ (p : Plane) (depth : ℕ) where
  pub filled_none : (dirs vars : List ℕ) → Filled p depth 0 dirs vars
  filled_none dirs vars = record { dirs-are = sym (upto-none _); vars-are = sym (upto-none _) }

  -- the same count, written otherwise
  pub filled_at : (n m : ℕ) (dirs vars : List ℕ) → n ≡ m → Filled p depth n dirs vars → Filled p depth m dirs vars
  filled_at n m dirs vars e t = rw e at t

  module _ (by bx : ℕ) (dirs vars : List ℕ) (t : Filled p depth (by * (p.width / 8) + bx) dirs vars) where
    -- by one block
    pub filled-one : (d v : ℕ) → bx < p.width / 8 → by * (p.width / 8) + bx < length dirs → by * (p.width / 8) + bx < length vars
        → d ≡ block_direction p depth (by * 8) (bx * 8) → v ≡ block_variance p depth (by * 8) (bx * 8)
        → Filled p depth (by * (p.width / 8) + (bx + 1)) (set dirs (by * (p.width / 8) + bx) d) (set vars (by * (p.width / 8) + bx) v)
    filled-one d v hb hd hv ed ev = record {
      dirs-are = upto-at _ _ _ _ (omega arith) (upto-more _ _ _ _ t.dirs-are hd (ed ∙ at_block (block_direction p depth) (p.width / 8) by bx hb));
      vars-are = upto-at _ _ _ _ (omega arith) (upto-more _ _ _ _ t.vars-are hv (ev ∙ at_block (block_variance p depth) (p.width / 8) by bx hb));
    }

-- the places of n blocks of row by in the lists of a plane, from column bx on
pub blocks-in : (p : FullPlane) {depth : ℕ} {dirs vars : List ℕ} (n by bx : ℕ) → PassIn (plane_in_full p) depth dirs vars
    → bx + suc n ≤ p.width / 8 → by < p.height / 8
    → (by * (p.width / 8) + bx + suc n ≤ length dirs) × (by * (p.width / 8) + bx + suc n ≤ length vars) × (length dirs ≤ 512 * 512)
unfolding plane_in_full
blocks-in p n by bx q hx hy =
    let r : bx + n < p.width / 8 = omega arith in
    let e : by * (p.width / 8) + (bx + n) < p.height / 8 * (p.width / 8) = digits_lt {q = by} {m = p.height / 8} {r = bx + n} {c = p.width / 8} hy r in
    let hh : p.height / 8 ≤ 512 = omega (arith, p.sides.1) in
    let hw : p.width / 8 ≤ 512 = omega (arith, p.sides.0) in
    (omega (arith, e, q.dirs-size), omega (arith, e, q.vars-size), omega (arith, mul-le-mul hh hw, q.dirs-size))
