-- `distance_block::cdef_dist_8x8` meets its contract.
use Rattle.std.proofs.Common.{◌≡◌, ℕ, List, sym, ◌∙◌, inl, inr}
use Rattle.cdef_spec.specs.declared.DistanceConstants.{DistanceConstants}
use Rattle.cdef_spec.specs.Lent.{plane_in_full}
use Rattle.distance_sums.specs.Blocks.{cell, weighted_by}
use Rattle.distance_sums.specs.BlockLaws.{block-below}
use Rattle.distance_block.specs.PlaneLaws.{own-whole, other-whole, past-edge, inside_is}
use Rattle.distance_block.proofs.cdef_dist_8x8.Goals as goal
use Rattle.distance_block.proofs.cdef_dist_8x8.Goals.{then-orig-x-via-then-orig-x, then-orig-x-via-else-orig-x+then-orig-y}

-- the calls' results put together
glue : {q k : DistanceConstants} {a b l m : List ℕ} {r v : ℕ} → q ≡ k → a ≡ l → b ≡ m → r ≡ weighted_by q (cell a) (cell b) → weighted_by k (cell l) (cell m) ≡ v → r ≡ v
glue e f g h i = h ∙ rw (e, f, g) i

pub returns-then-orig-x : goal.returns-then-orig-x
returns-then-orig-x c = λ depth e. c.block_sse_8x8.ensures ∙ sym (past-edge c.args.orig.now c.args.other.now depth c.args.y c.args.x c.requires.on_plane.0 c.requires.on_plane.1 c.requires.on_plane.2 (elim c.then-orig-x.branch [
  | then-orig-x-via-then-orig-x w ↦ inl w.if-orig-x.true
  | then-orig-x-via-else-orig-x+then-orig-y w ↦ inr w.if-orig-y.true
]))

pub block_of-a-requires : goal.block_of-a-requires
block_of-a-requires c =
    let r = c.requires.on_plane in
    let t = c.requires.samples_taken in
    (own-whole c.args.orig.now c.args.other.now t.0 c.args.y c.args.x r.0 r.1 r.2 c.if-orig-x.false c.if-orig-y.false t.2).held

pub block_of-b-requires : goal.block_of-b-requires
block_of-b-requires c =
    let r = c.requires.on_plane in
    let t = c.requires.samples_taken in
    (other-whole c.args.orig.now c.args.other.now t.0 c.args.y c.args.x r.0 r.1 r.2 c.if-orig-x.false c.if-orig-y.false t.3).held

pub block_distance-requires : goal.block_distance-requires
block_distance-requires c =
    let r = c.requires.on_plane in
    let t = c.requires.samples_taken in (
      t.0,
      t.1,
      rw c.block_of-a.ensures (block-below _ _ _ _ (own-whole c.args.orig.now c.args.other.now t.0 c.args.y c.args.x r.0 r.1 r.2 c.if-orig-x.false c.if-orig-y.false t.2)),
      rw c.block_of-b.ensures (block-below _ _ _ _ (other-whole c.args.orig.now c.args.other.now t.0 c.args.y c.args.x r.0 r.1 r.2 c.if-orig-x.false c.if-orig-y.false t.3)),
    )

pub returns : goal.returns
unfolding plane_in_full
returns c = λ depth e.
    glue e c.block_of-a.ensures c.block_of-b.ensures c.block_distance.ensures (inside_is _ _ _ _ _ _ depth c.if-orig-x.false c.if-orig-y.false)
