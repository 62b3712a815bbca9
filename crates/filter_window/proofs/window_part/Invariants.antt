-- `filter_window::window_part` meets its contract.
use Rattle.std.proofs.Common.{◌*◌}
use Rattle.cdef_spec.specs.Lent.{plane_in_full}
use Rattle.filter_window.specs.Spans.{Filled}
use Rattle.filter_window.proofs.window_part.Given as goal

abbrev pub invariant-loop-i : goal.invariant-loop-i
invariant-loop-i l = Filled (plane_in_full l.src) l.b (l.i * 12) l.out
