-- Laws of the chroma direction: 4:4:4 and 4:2:0 keep luma's, and it is below 8 in every layout.
use Rattle.std.specs.Prelude.{◌≡◌, refl, true, ℕ, zero, suc, ◌<◌, ltb}
use Rattle.std.proofs.Common.{ltb-true}
use Rattle.cdef_spec.specs.Words.{every}
use Rattle.cdef_spec.specs.WordsLaws.{every-at, agree2}
use Rattle.cdef_spec.specs.Standard.{cdef_uv_dir, chroma_direction}

-- with both flags 0, or both 1, the direction is luma's
pub chroma-kept : (s d : ℕ) → s < 2 → d < 8 → chroma_direction s s d ≡ d
unfolding chroma_direction every cdef_uv_dir
chroma-kept = agree2 2 8 (λ s d. chroma_direction s s d) (λ s d. d) refl

tested_low : (sx sy : ℕ) → every 8 (λ d. ltb (chroma_direction sx sy d) 8) ≡ true → (d : ℕ) → d < 8 → chroma_direction sx sy d < 8
tested_low sx sy test d h = ltb-true _ 8 (every-at 8 (λ d. ltb (chroma_direction sx sy d) 8) test d h)

-- a flag above 1, which question 3 rejects, has no row: the definition gives 0
pub chroma-low : (sx sy d : ℕ) → d < 8 → chroma_direction sx sy d < 8
unfolding chroma_direction every cdef_uv_dir
chroma-low zero zero = tested_low 0 0 refl
chroma-low zero (suc zero) = tested_low 0 1 refl
chroma-low zero (suc (suc sy)) = tested_low 0 (suc (suc sy)) refl
chroma-low (suc zero) zero = tested_low 1 0 refl
chroma-low (suc zero) (suc zero) = tested_low 1 1 refl
chroma-low (suc zero) (suc (suc sy)) = tested_low 1 (suc (suc sy)) refl
chroma-low (suc (suc sx)) sy = tested_low (suc (suc sx)) sy refl
