-- `apply_plane::apply_row` meets its contract.
use Rattle.std.proofs.Common.{◌≡◌}
use Rattle.frame_shape.specs.Checked.{filter_in}
use Rattle.apply_plane.specs.Apply.{row_applied}
use Rattle.apply_plane.proofs.apply_row.Given as goal

abbrev pub invariant-loop-bx : goal.invariant-loop-bx
invariant-loop-bx g l = l.dst ≡ row_applied (filter_in l.i) l.i.damping l.i.plane.samples.now (g.P.Pairs.pairs l.pairs) l.by l.initial.dst l.bx
