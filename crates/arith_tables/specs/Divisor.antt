-- The direction cost multiplies each squared line sum by 840 / n, with n the number of samples on the line. Stated here: 840 / n is the standard's entry for n. Proved in DivisorLaws.
use Rattle.std.specs.Prelude.{◌≡◌, ℕ, ◌/◌, ◌≤◌}
use Rattle.cdef_spec.specs.Standard.{div_by}

-- 7.15.2: 840 / n equals Div_Table[n] for n from 1 to 8, the lengths that lines of an 8 by 8 block have
abbrev pub DivisorIsStandard : Type 0
DivisorIsStandard = (n : ℕ) → 1 ≤ n → n ≤ 8 → 840 / n ≡ div_by n
