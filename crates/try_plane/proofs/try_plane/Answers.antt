-- `try_plane::try_plane` meets its contract.
use Rattle.std.proofs.Common.{◌≡◌, ◌∙◌, ◌/◌, length, pos, rules, arith}
use Rattle.std.specs.Prelude.{replicate}
use Rattle.cdef_spec.specs.Lent.{picture_in}
use Rattle.try_one.specs.TryLaws.{rows_none, rows_all}
use Rattle.try_plane.proofs.try_plane.Goals as goal

pub constants_of-c-requires : goal.constants_of-c-requires
unfolding picture_in
constants_of-c-requires c = let h = c.args.i.now.filter.listed.shaped.shaped in (h.deep, h.flat)

pub loop-by-init : goal.loop-by-init
loop-by-init c =
    let none : c.fill.new.self ≡ replicate (length c.args.totals.now) (pos 0) = search rules in
    record { done = none ∙ rows_none _ _ _ _ _ _ c.requires; room = search rules }

pub try_row-requires : goal.try_row-requires
unfolding picture_in
try_row-requires c = record {
  inside = c.loop-by-test.true;
  constants = c.constants_of-c.ensures;
  room = c.loop-by.invariant.room;
  totals_so_far = c.loop-by.invariant.done;
}

pub returns : goal.returns
unfolding picture_in
returns c =
    let full : c.loop-by.by ≡ c.args.i.now.filter.listed.shaped.picture.height / 8 = omega arith in
    c.loop-by.invariant.done ∙ rows_all _ _ _ _ _ _ full
