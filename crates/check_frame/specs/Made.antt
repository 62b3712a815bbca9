-- What the checks of a frame call make for its core: the same picture, planes and figures as the call was given. Definitions only.
use Rattle.std.specs.Prelude.{◌≡◌, List, ℕ}
use Rattle.cdef_spec.specs.declared.SignalledDamping.{SignalledDamping}
use Rattle.cdef_spec.specs.declared.Visible.{Visible}
use Rattle.cdef_spec.specs.Picture.{Picture}
use Rattle.frame_shape.specs.declared.inputs.FilterInput.{FilterInput}
use Rattle.frame_shape.specs.declared.inputs.CompareInput.{CompareInput}
use Rattle.frame_shape.specs.Checked.{filter_in}

-- for filtering: d is the figure in force
pub record FilterMade (q : Picture) (d : SignalledDamping) (plane : List ℕ) (i : FilterInput) : Type 0 where
  pub picture : filter_in i ≡ q
  pub damping : i.damping ≡ d
  pub samples : i.plane.samples.now ≡ plane

-- for comparing with an original
pub record CompareMade (q : Picture) (d : SignalledDamping) (v : Visible) (plane other : List ℕ) (i : CompareInput) : Type 0 where
  pub filter : FilterMade q d plane i.filter
  pub original : i.original.samples.now ≡ other
  pub visible : i.visible ≡ v
