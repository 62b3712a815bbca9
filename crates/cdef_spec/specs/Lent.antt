-- The planes and pictures that calls receive, as the definitions have them: the lists in the caller's slices in place of the slices. Definitions only.
use Rattle.cdef_spec.specs.declared.Plane.{Plane as LentPlane}
use Rattle.cdef_spec.specs.declared.full.FullPlane.{FullPlane}
use Rattle.cdef_spec.specs.declared.PlaneKind.{PlaneKind as LentKind}
use Rattle.cdef_spec.specs.declared.PlaneKind.TheVariants.{Luma, Chroma}
use Rattle.cdef_spec.specs.declared.Picture.{Picture as LentPicture}
use Rattle.cdef_spec.specs.Document01.{Plane}
use Rattle.cdef_spec.specs.Picture.{PlaneKind, luma, chroma, Picture}

unfoldable pub plane_in : LentPlane → Plane
plane_in p = record { samples = p.samples.now; width = p.width; height = p.height }

unfoldable pub plane_in_full : FullPlane → Plane
plane_in_full p = record { samples = p.samples.now; width = p.width; height = p.height }

unfoldable pub kind_in : LentKind → PlaneKind
kind_in (Luma vars) = luma vars.now
kind_in (Chroma sx sy) = chroma sx sy

unfoldable pub picture_in : LentPicture → Picture
picture_in q = record { kind = kind_in q.kind; depth = q.depth; width = q.width; height = q.height; skip = q.skip.now; dirs = q.dirs.now }
