-- `pass_plane::direction_pass` meets its contract.
use mathlib.Core.Path.{◌≡◌}
use Prim.Native.Nat.{◌*◌, ◌/◌, ◌≤◌}
use lib.ListN.{length}
use Rattle.cdef_spec.specs.Lent.{plane_in_full}
use Rattle.pass_one.specs.Pass.{Filled}
use Rattle.pass_plane.proofs.direction_pass.Given as goal

abbrev pub invariant-loop-by : goal.invariant-loop-by
invariant-loop-by l = Filled (plane_in_full l.plane) l.depth (l.by * (l.plane.width / 8)) l.dirs l.vars × (length l.dirs ≡ length l.initial.dirs) × (length l.vars ≡ length l.initial.vars) × (l.by ≤ l.plane.height / 8)
