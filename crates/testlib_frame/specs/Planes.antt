-- The planes of a frame's file: their bytes, and how many samples those are. Definitions only.
use Rattle.std.specs.Prelude.{ℕ, List, ◌/◌, cond, eqb}
use Rattle.testlib_frame.specs.declared.frame.Component.{Component}
use Rattle.testlib_frame.specs.declared.frame.Component.TheVariants.{Y, U, V}
use Rattle.testlib_frame.specs.declared.frame.Planes.{Planes}

-- the bytes of a component
abbrev pub plane_of : Component → Planes → List ℕ
plane_of Y planes = planes.y.now
plane_of U planes = planes.u.now
plane_of V planes = planes.v.now

-- test_frames/data/README.md: a sample is a byte at depth 8, else two
abbrev pub samples_in : ℕ → ℕ → ℕ
samples_in depth bytes = cond (eqb depth 8) bytes (bytes / 2)
