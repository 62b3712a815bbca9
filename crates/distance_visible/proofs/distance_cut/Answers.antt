-- `distance_visible::distance_cut` meets its contract.
use Rattle.std.proofs.Common.{◌≡◌, ℕ, ◌+◌, ◌^◌, ◌<◌, List, sym, ◌∙◌, arith}
use Rattle.distance_sums.specs.Blocks.{at, Within}
use Rattle.distance_sums.specs.BlockLaws.{block-below}
use Rattle.distance_block.specs.PlaneLaws.{lower}
use Rattle.distance_visible.specs.declared.Part.{Part}
use Rattle.distance_visible.specs.Cut.{cut_distance}
use Rattle.distance_visible.specs.CutLaws.{cut-part, cut-chroma, cut-blocks, cut-within}
use Rattle.distance_visible.proofs.distance_cut.Goals as goal
use Rattle.distance_visible.proofs.distance_cut.Goals.{in-Some+else-part-eq16, in_default}

-- a side is cropped by nothing where the two have 16 samples
module _ (p : Part) (e : p.rows + p.cols ≡ 16) where
  rows : p.rows ≡ 8
  rows = omega (arith, e, p.sides.0, p.sides.1)

  cols : p.cols ≡ 8
  cols = omega (arith, e, p.sides.0, p.sides.1)

  whole : (s : List ℕ) (start pitch m : ℕ) → Within s start pitch p.rows p.cols m → Within s start pitch 8 8 m
  whole s start pitch m w = rw (rows, cols) at w

-- the distance is below 2 ^ 53
low : (p : Part) (t : List ℕ) (from step : ℕ) → Within t from step p.rows p.cols (2 ^ p.depth) → cut_distance p.weights p.rows p.cols (at p.samples.now p.start p.pitch) (at t from step) < 2 ^ 53
low p t from step w = cut-within _ _ _ _ _ _ _ _ _ _ p.sides.0 p.sides.1 p.weighs p.within w

pub block_distance-requires : goal.block_distance-requires
block_distance-requires c =
    let p = c.args.part.now in
    let e = c.if-part-eq16.true in (
      p.depth,
      p.weighs.of_depth _ c.in-Some.is,
      rw c.block_of-a.ensures (block-below _ _ _ _ (whole p e _ _ _ _ p.within)),
      rw c.block_of-b.ensures (block-below _ _ _ _ (whole p e _ _ _ _ c.requires)),
    )

pub returns-then-part-eq16 : goal.returns-then-part-eq16
returns-then-part-eq16 c =
    let p = c.args.part.now in
    let e = c.if-part-eq16.true in
    let d : c.block_distance.result ≡ cut_distance p.weights p.rows p.cols (at p.samples.now p.start p.pitch) (at c.args.other.now c.args.from c.args.step) =
    c.block_distance.ensures ∙ rw (c.block_of-a.ensures, c.block_of-b.ensures, c.in-Some.is) (cut-blocks _ _ _ _ _ _ _ _ _ (rows p e) (cols p e)) in
    (d, rw d (low p _ _ _ c.requires))

pub squares-requires : goal.squares-requires
squares-requires c =
    let p = c.args.part.now in
    (p.sides.0, p.sides.1, lower _ _ _ _ _ p.depth p.weighs.flat p.within, lower _ _ _ _ _ p.depth p.weighs.flat c.requires)

pub returns : goal.returns
returns c =
    let p = c.args.part.now in
    let d : c.squares.result ≡ cut_distance p.weights p.rows p.cols (at p.samples.now p.start p.pitch) (at c.args.other.now c.args.from c.args.step) =
    c.squares.ensures ∙ elim c.match-part.branch [
      | in-Some+else-part-eq16 w ↦ rw w.in-Some.is (sym (cut-part _ _ _ _ _ (λ e f. w.if-part-eq16.false (omega (arith, e, f)))))
      | in_default w ↦ rw w.in_default.is (sym (cut-chroma _ _ _ _))
    ] in
    (d, rw d (low p _ _ _ c.requires))
