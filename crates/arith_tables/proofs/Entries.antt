-- The tables' entries in the code's form, each by one computed test of the whole table.
use mathlib.Core.Path.{◌≡◌, refl}
use mathlib.Core.Bool.{cond}
use Prim.Native.Nat.{ℕ, ◌<◌}
use lib.Dec.{eqb}
use Rattle.cdef_spec.specs.Words.{every}
use Rattle.cdef_spec.specs.WordsLaws.{agree}
use Rattle.cdef_spec.specs.Standard.{cdef_uv_dir, chroma_direction}

-- the rows of Cdef_Uv_Dir for 4:2:2 and for 4:4:0
abbrev pub uv-422 : ℕ → ℕ
uv-422 d = cond (eqb d 0) 7 (cond (eqb d 1) 0 (cond (eqb d 2) 2 (cond (eqb d 3) 4 (cond (eqb d 4) 5 6))))

abbrev pub uv-440 : ℕ → ℕ
uv-440 d = cond (eqb d 0) 1 (cond (eqb d 4) 3 (cond (eqb d 5) 4 (cond (eqb d 6) 6 (cond (eqb d 7) 0 2))))

pub uv-422-is : (d : ℕ) → d < 8 → chroma_direction 1 0 d ≡ uv-422 d
unfolding every chroma_direction cdef_uv_dir
uv-422-is = agree 8 (chroma_direction 1 0) uv-422 refl

pub uv-440-is : (d : ℕ) → d < 8 → chroma_direction 0 1 d ≡ uv-440 d
unfolding every chroma_direction cdef_uv_dir
uv-440-is = agree 8 (chroma_direction 0 1) uv-440 refl
