-- The checked pictures, as the definitions have them. Definitions only.
use Rattle.cdef_spec.specs.Picture.{Picture}
use Rattle.cdef_spec.specs.Lent.{picture_in}
use Rattle.frame_shape.specs.declared.checked.ShapedPicture.{ShapedPicture}
use Rattle.frame_shape.specs.declared.checked.ListedPicture.{ListedPicture}
use Rattle.frame_shape.specs.declared.inputs.FilterInput.{FilterInput}
use Rattle.frame_shape.specs.declared.inputs.CompareInput.{CompareInput}

abbrev pub shaped_in : ShapedPicture → Picture
shaped_in q = picture_in q.picture

abbrev pub listed_in : ListedPicture → Picture
listed_in q = picture_in q.shaped.picture

abbrev pub filter_in : FilterInput → Picture
filter_in i = picture_in i.listed.shaped.picture

abbrev pub compare_in : CompareInput → Picture
compare_in i = picture_in i.filter.listed.shaped.picture
