-- The tests of a counted block, one after the other.
use Rattle.std.specs.Prelude.{◌≡◌, true, false, ◌&&◌, ℕ, ◌*◌, ◌≤◌, ◌<◌, ltb, eqb, get_or}
use Rattle.std.proofs.Math.Path.{sym, ap}
use Rattle.std.proofs.Math.Bool.{and-false}
use Rattle.std.proofs.Common.{arith, ltb-true}
use Rattle.cdef_spec.specs.WordsLaws.{and_both}
use borrow.Author.Tests.{eq-eqb, ne_eqb, lt-ltb, le-ltb}
use Rattle.cdef_spec.specs.declared.Block.{Block}
use Rattle.cdef_spec.specs.declared.Visible.{Visible}
use Rattle.cdef_spec.specs.Picture.{Picture, block_at, block_width, block_height, visible_rows, visible_cols, counted}
use Rattle.frame_shape.specs.Frame.{block_of}

-- a counted block begins inside the visible area
pub begins-inside : (q : Picture) (v : Visible) (by bx : ℕ) → counted q v by bx ≡ true → (by * block_height q ≤ visible_rows q v) × (bx * block_width q ≤ visible_cols q v)
unfolding counted
begins-inside q v by bx e =
    let a = (and_both (eqb (get_or q.skip (block_at q by bx) 0) 0) (ltb (by * block_height q) (visible_rows q v) && ltb (bx * block_width q) (visible_cols q v)) e).1 in
    let b = and_both (ltb (by * block_height q) (visible_rows q v)) (ltb (bx * block_width q) (visible_cols q v)) a in
    (omega (arith, ltb-true (by * block_height q) (visible_rows q v) b.0), omega (arith, ltb-true (bx * block_width q) (visible_cols q v) b.1))

module _ (q : Picture) (v : Visible) (by bx : ℕ) where
  pub skipped : (get_or q.skip (block_at q by bx) 0 ≡ 0 → ⊥) → false ≡ counted q v by bx
  unfolding counted
  skipped h = rw (ne_eqb (get_or q.skip (block_at q by bx) 0) 0 h)

  module _ (b : Block) (e : b ≡ block_of q by bx) (rows : ℕ) (er : rows ≡ visible_rows q v) where
    top : b.y ≡ by * block_height q
    unfolding block_of
    top = ap (λ (x : Block). x.y) e

    left : b.x ≡ bx * block_width q
    unfolding block_of
    left = ap (λ (x : Block). x.x) e

    pub below : rows ≤ b.y → ltb b.y rows ≡ counted q v by bx
    unfolding counted
    below h = rw (le-ltb b.y rows h, le-ltb (by * block_height q) (visible_rows q v) (omega (arith, top, er))) (sym (and-false (eqb (get_or q.skip (block_at q by bx) 0) 0)))

    pub begun : get_or q.skip (block_at q by bx) 0 ≡ 0 → b.y < rows → (cols : ℕ) → cols ≡ visible_cols q v → ltb b.x cols ≡ counted q v by bx
    unfolding counted
    begun z h cols ec = rw (eq-eqb (get_or q.skip (block_at q by bx) 0) 0 z, lt-ltb (by * block_height q) (visible_rows q v) (omega (arith, top, er)), ec, left)
