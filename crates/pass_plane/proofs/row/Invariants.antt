-- `pass_plane::row` meets its contract.
use mathlib.Core.Path.{◌≡◌}
use Prim.Native.Nat.{◌+◌, ◌*◌, ◌/◌, ◌≤◌}
use lib.ListN.{length}
use Rattle.cdef_spec.specs.Lent.{plane_in_full}
use Rattle.pass_one.specs.Pass.{Filled}
use Rattle.pass_plane.proofs.row.Given as goal

abbrev pub invariant-loop-u : goal.invariant-loop-u
invariant-loop-u l = Filled (plane_in_full l.plane) l.depth (l.by * (l.plane.width / 8) + l.u * 8) l.dirs l.vars × (length l.dirs ≡ length l.initial.dirs) × (length l.vars ≡ length l.initial.vars) × (l.u ≤ l.plane.width / 64)

abbrev pub invariant-loop-bx : goal.invariant-loop-bx
invariant-loop-bx l = Filled (plane_in_full l.plane) l.depth (l.by * (l.plane.width / 8) + l.bx) l.dirs l.vars × (length l.dirs ≡ length l.initial.dirs) × (length l.vars ≡ length l.initial.vars) × (l.bx ≤ l.plane.width / 8)
