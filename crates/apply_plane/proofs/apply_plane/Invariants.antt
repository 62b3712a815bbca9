-- `apply_plane::apply_plane` meets its contract.
use Rattle.std.proofs.Common.{◌≡◌}
use Rattle.frame_shape.specs.Checked.{filter_in}
use Rattle.apply_plane.specs.Apply.{rows_applied}
use Rattle.apply_plane.proofs.apply_plane.Given as goal

abbrev pub invariant-loop-by : goal.invariant-loop-by
invariant-loop-by g l = l.dst ≡ rows_applied (filter_in l.i) l.i.damping l.i.plane.samples.now (g.P.Pairs.pairs l.pairs) l.initial.dst l.by
