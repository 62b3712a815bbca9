-- `distance_block::block_sse_8x8` meets its contract.
use Rattle.std.proofs.Common.{◌∙◌, arith}
use Rattle.cdef_spec.specs.Lent.{plane_in_full}
use Rattle.distance_sums.specs.BlockLaws.{block-below}
use Rattle.distance_block.specs.PlaneLaws.{own-within, other-within, own-whole, other-whole, lower, squares-is, squares-inside}
use Rattle.distance_block.proofs.block_sse_8x8.Goals as goal

pub squares-requires : goal.squares-requires
squares-requires c =
    let r = c.requires.on_plane in
    let t = c.requires.samples_taken in
    rw (c.min-rows.ensures, c.min-cols.ensures) (
      omega arith,
      omega arith,
      lower _ _ _ _ _ t.0 t.1 (own-within c.args.orig.now c.args.other.now t.0 c.args.y c.args.x r.0 r.1 r.2 t.2),
      lower _ _ _ _ _ t.0 t.1 (other-within c.args.orig.now c.args.other.now t.0 c.args.y c.args.x r.0 r.1 r.2 t.3),
    )

pub returns-then-rows-cols-lt16 : goal.returns-then-rows-cols-lt16
unfolding plane_in_full
returns-then-rows-cols-lt16 c = squares-is _ _ _ _ _ _ _ (c.squares.ensures ∙ rw (c.min-rows.ensures, c.min-cols.ensures))

pub block_of-a-requires : goal.block_of-a-requires
block_of-a-requires c =
    let r = c.requires.on_plane in
    let t = c.requires.samples_taken in
    (own-whole c.args.orig.now c.args.other.now t.0 c.args.y c.args.x r.0 r.1 r.2 (omega (arith, c.min-rows.ensures, c.min-cols.ensures)) (omega (arith, c.min-rows.ensures, c.min-cols.ensures)) t.2).held

pub block_of-b-requires : goal.block_of-b-requires
block_of-b-requires c =
    let r = c.requires.on_plane in
    let t = c.requires.samples_taken in
    (other-whole c.args.orig.now c.args.other.now t.0 c.args.y c.args.x r.0 r.1 r.2 (omega (arith, c.min-rows.ensures, c.min-cols.ensures)) (omega (arith, c.min-rows.ensures, c.min-cols.ensures)) t.3).held

pub block_squares-requires : goal.block_squares-requires
block_squares-requires c =
    let r = c.requires.on_plane in
    let t = c.requires.samples_taken in (
      rw c.block_of-a.ensures (block-below _ _ _ _ (lower _ _ _ _ _ t.0 t.1 (own-whole c.args.orig.now c.args.other.now t.0 c.args.y c.args.x r.0 r.1 r.2 (omega (arith, c.min-rows.ensures, c.min-cols.ensures)) (omega (arith, c.min-rows.ensures, c.min-cols.ensures)) t.2))),
      rw c.block_of-b.ensures (block-below _ _ _ _ (lower _ _ _ _ _ t.0 t.1 (other-whole c.args.orig.now c.args.other.now t.0 c.args.y c.args.x r.0 r.1 r.2 (omega (arith, c.min-rows.ensures, c.min-cols.ensures)) (omega (arith, c.min-rows.ensures, c.min-cols.ensures)) t.3))),
    )

pub returns : goal.returns
unfolding plane_in_full
returns c = squares-inside _ _ _ _ _ _ (omega (arith, c.min-rows.ensures, c.min-cols.ensures)) (omega (arith, c.min-rows.ensures, c.min-cols.ensures)) _ (c.block_squares.ensures ∙ rw (c.block_of-a.ensures, c.block_of-b.ensures))
