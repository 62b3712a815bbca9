-- `apply_plane::apply_plane` meets its contract.
use Rattle.std.proofs.Common.{◌≡◌, sym, ◌∙◌, ◌/◌, arith}
use Rattle.cdef_spec.specs.Lent.{picture_in}
use Rattle.apply_plane.specs.ApplyLaws.{rows_none, rows-turn, plane-is}
use Rattle.apply_plane.proofs.apply_plane.Goals as goal

pub loop-by-init : goal.loop-by-init
loop-by-init g c = sym (rows_none _ _ _ _ _)

pub apply_row-requires-clause-inside : goal.apply_row-requires-clause-inside
unfolding picture_in
apply_row-requires-clause-inside g c = c.loop-by-test.true

pub loop-by-preserved : goal.loop-by-preserved
loop-by-preserved g c = rows-turn _ _ _ _ _ _ _ _ c.loop-by.invariant c.apply_row.ensures

pub returns : goal.returns
unfolding picture_in
returns g c = let full : c.loop-by.by ≡ c.args.i.now.listed.shaped.picture.height / 8 = omega arith in c.loop-by.invariant ∙ rw full (plane-is _ c.args.i.now.listed.shaped.shaped _ _ _ _ c.requires.full)
