-- Laws of applying: the iterations of the loops, and the whole plane.
use Rattle.std.specs.Prelude.{◌≡◌, Bool, List, ℕ, ◌+◌, ◌*◌, length}
use Rattle.std.proofs.Math.Path.{refl}
use Rattle.std.proofs.Common.{sym, ◌∙◌}
use Rattle.std.proofs.Math.Bool.{true, false, cond}
use Rattle.cdef_spec.specs.declared.SignalledDamping.{SignalledDamping}
use Rattle.cdef_spec.specs.declared.UnitPair.{UnitPair}
use Rattle.cdef_spec.specs.Picture.{Picture, plane_width, plane_height, block_rows, block_cols, unit_at, pair_at, written, applied_plane}
use Rattle.cdef_spec.proofs.PlaneLaws.{apply-is}
use Rattle.arith_totals.specs.FoldLaws.{apply-row-none, apply-row-more, apply-row-pass, apply-rows-none, apply-rows-more}
use Rattle.frame_shape.specs.Shape.{Shaped}
use Rattle.frame_shape.specs.ShapeLaws.{tiles, block-wide, block-high}
use Rattle.apply_plane.specs.Apply.{row_applied, rows_applied}
use Rattle.apply_blocks.specs.Blocks.{block_filtered, block_applied}

-- ---- iterations

module _ (q : Picture) (d : SignalledDamping) (snapshot : List ℕ) (ps : List UnitPair) where
  pub row-none : (by : ℕ) (dst : List ℕ) → row_applied q d snapshot ps by dst 0 ≡ dst
  unfolding row_applied
  row-none by dst = apply-row-none q _ _ by dst

  row_more : (by : ℕ) (dst : List ℕ) (n : ℕ) → row_applied q d snapshot ps by dst (n + 1) ≡ block_applied q d snapshot ps by n (row_applied q d snapshot ps by dst n)
  unfolding row_applied block_applied block_filtered
  row_more by dst n = go (written q ps by n) refl
    where
      go : (b : Bool) → written q ps by n ≡ b → row_applied q d snapshot ps by dst (n + 1) ≡ cond b (block_filtered q d snapshot (pair_at ps (unit_at q by n)) by n (row_applied q d snapshot ps by dst n)) (row_applied q d snapshot ps by dst n)
      go true e = apply-row-more q _ _ by dst n e
      go false e = apply-row-pass q _ _ by dst n e

  -- an iteration of the loop over a row's blocks: n of them left l, the next leaves last
  pub row-turn : (by : ℕ) (dst l last : List ℕ) (n : ℕ) → l ≡ row_applied q d snapshot ps by dst n → last ≡ block_applied q d snapshot ps by n l → last ≡ row_applied q d snapshot ps by dst (n + 1)
  row-turn by dst l last n e h = h ∙ rw e (sym (row_more by dst n))

  pub rows_none : (dst : List ℕ) → rows_applied q d snapshot ps dst 0 ≡ dst
  unfolding rows_applied
  rows_none dst = apply-rows-none q _ _ dst

  rows_more : (dst : List ℕ) (m : ℕ) → rows_applied q d snapshot ps dst (m + 1) ≡ row_applied q d snapshot ps m (rows_applied q d snapshot ps dst m) (block_cols q)
  unfolding rows_applied row_applied
  rows_more dst m = apply-rows-more q _ _ dst m

  pub rows-turn : (dst l last : List ℕ) (m : ℕ) → l ≡ rows_applied q d snapshot ps dst m → last ≡ row_applied q d snapshot ps m l (block_cols q) → last ≡ rows_applied q d snapshot ps dst (m + 1)
  rows-turn dst l last m e h = h ∙ rw e (sym (rows_more dst m))

-- ---- the whole plane

pub plane-is : (q : Picture) → Shaped q → (d : SignalledDamping) (snapshot : List ℕ) (ps : List UnitPair) (dst : List ℕ) → length dst ≡ plane_width q * plane_height q → rows_applied q d snapshot ps dst (block_rows q) ≡ applied_plane q d snapshot ps dst
unfolding rows_applied
plane-is q h d snapshot ps dst e = apply-is q (tiles q h) (block-wide q h).0 (block-high q h).0 d snapshot ps dst e
