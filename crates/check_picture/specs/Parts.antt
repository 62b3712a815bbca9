-- The questions of the frame calls in the parts that the code checks them in. Definitions only.
use Rattle.std.specs.Prelude.{Bool, ◌&&◌, List, [], ◌∷◌, ◌++◌, ℕ, ◌^◌}
use Rattle.cdef_spec.specs.declared.SignalledDamping.{SignalledDamping}
use Rattle.cdef_spec.specs.Picture.{Picture}
use Rattle.cdef_spec.specs.Questions.{Question, ask, depth_taken, luma_side_taken, flags_taken, full_planes, picture_listed, picture_taken, all_samples_below}

-- 1 and 2
abbrev pub sides_first : ℕ → ℕ → ℕ → List Question
sides_first depth width height = ask 1 (depth_taken depth) ∷ ask 2 (luma_side_taken width && luma_side_taken height) ∷ []

-- 1, 2 and 3
abbrev pub shape_first : Picture → List Question
shape_first q = ask 1 (depth_taken q.depth) ∷ ask 2 (luma_side_taken q.width && luma_side_taken q.height) ∷ ask 3 (flags_taken q.kind) ∷ []

-- 4, and 7 of the picture
abbrev pub lists_next : Picture → List (List ℕ) → List Question
lists_next q planes = ask 4 (full_planes q planes) ∷ ask 7 (picture_listed q) ∷ []

-- 4, and 7 of the picture and of a call's own lists
abbrev pub lists_both : Picture → List (List ℕ) → Bool → List Question
lists_both q planes own = ask 4 (full_planes q planes) ∷ ask 7 (picture_listed q && own) ∷ []

-- 8 of the picture
abbrev pub values_next : Picture → SignalledDamping → List Question
values_next q signalled = ask 8 (picture_taken q signalled) ∷ []

-- 8 of the picture and of a call's own values
abbrev pub values_both : Picture → SignalledDamping → Bool → List Question
values_both q signalled own = ask 8 (picture_taken q signalled && own) ∷ []

-- 9
abbrev pub samples_last : ℕ → List (List ℕ) → List Question
samples_last depth looked = ask 9 (all_samples_below (2 ^ depth) looked) ∷ []

-- 8 of the picture, and 9
unfoldable pub after_lists : Picture → SignalledDamping → List (List ℕ) → List Question
after_lists q signalled looked = values_next q signalled ++ samples_last q.depth looked

-- 4 to 9; a call's own parts of 7 and 8 between those of the picture
unfoldable pub after_shape : Picture → SignalledDamping → List (List ℕ) → Bool → Bool → List (List ℕ) → List Question
after_shape q signalled planes lists values looked = lists_next q planes ++ (ask 7 lists ∷ ask 8 values ∷ after_lists q signalled looked)
