-- `try_totals::distances` meets its contract.
use Rattle.std.proofs.Common.{◌≡◌, ℕ, ◌+◌, ◌≤◌, List, refl, ◌∙◌, arith}
use Rattle.distance_sums.specs.Blocks.{Within}
use Rattle.distance_sums.specs.BlockLaws.{block-below}
use Rattle.distance_visible.specs.declared.Part.{Part}
use Rattle.try_totals.specs.SameLaws.{part-whole, part-packed, within-12}
use Rattle.try_totals.proofs.distances.Goals as goal

-- a whole block
module _ (p : Part) (step : ℕ) (e : p.rows + p.cols ≡ 16) (h : p.cols ≤ step) (k : step ≤ 8) where
  rows : p.rows ≡ 8
  rows = omega (arith, e, p.sides.0, p.sides.1)

  cols : p.cols ≡ 8
  cols = omega (arith, e, p.sides.0, p.sides.1)

  wide : step ≡ 8
  wide = omega (arith, cols, h, k)

  whole : (s : List ℕ) (start pitch width m : ℕ) → pitch ≡ width → Within s start pitch p.rows p.cols m → Within s start width 8 8 m
  whole s start pitch width m f w = rw (rows, cols, f) at w

pub block_of-a-requires : goal.block_of-a-requires
block_of-a-requires c = let p = c.args.part.now in let r = c.requires.rows_inside in (whole p c.args.step c.if-part-eq16.true r.0 r.1 _ _ _ _ _ refl p.within).held

pub whole_distances-requires : goal.whole_distances-requires
whole_distances-requires c =
    let p = c.args.part.now in
    let r = c.requires.rows_inside in
    let e = c.if-part-eq16.true in (
      p.depth,
      p.weighs.of_depth _ c.in-Some.is,
      rw c.block_of-a.ensures (block-below _ _ _ _ (whole p c.args.step e r.0 r.1 _ _ _ _ _ refl p.within)),
      λ t h. whole p c.args.step e r.0 r.1 _ _ _ _ _ (wide p c.args.step e r.0 r.1) (c.requires.trials t h),
    )

pub returns-in-Some : goal.returns-in-Some
returns-in-Some c =
    let p = c.args.part.now in
    let r = c.requires.rows_inside in
    let e = c.if-part-eq16.true in
    c.whole_distances.ensures ∙ part-whole p _ _ _ _ c.in-Some.is (rows p c.args.step e r.0 r.1) (cols p c.args.step e r.0 r.1) (wide p c.args.step e r.0 r.1) c.block_of-a.ensures

pub packed_distances-requires : goal.packed_distances-requires
packed_distances-requires c =
    let p = c.args.part.now in
    let k = p.weighs.flat in
    (c.packs.ensures c.if-packs.true, within-12 _ _ _ _ _ _ p.depth refl k p.within, λ t h. within-12 _ _ _ _ _ _ p.depth c.if-step-part.true k (c.requires.trials t h))

pub returns-in-None : goal.returns-in-None
returns-in-None c = c.packed_distances.ensures ∙ part-packed c.args.part.now _ _ c.in-None.is c.if-step-part.true
