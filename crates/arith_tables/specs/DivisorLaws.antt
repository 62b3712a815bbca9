-- The proof of DivisorIsStandard: one computed test of the whole table (entry 0 too, as 840 / 0 is 0 in ℕ), and a lemma that gives the rule at each length.
use Rattle.std.specs.Prelude.{◌≡◌, refl, true, ℕ, ◌≤◌, eqb}
use Rattle.std.proofs.Common.{arith}
use Rattle.cdef_spec.specs.Words.{every}
use Rattle.cdef_spec.specs.WordsLaws.{agree}
use Rattle.cdef_spec.specs.Standard.{div_table, div_by}
use Rattle.arith_tables.specs.Divisor.{DivisorIsStandard}

at-each-length : (f : ℕ → ℕ) → every 9 (λ n. eqb (f n) (div_by n)) ≡ true → (n : ℕ) → 1 ≤ n → n ≤ 8 → f n ≡ div_by n
at-each-length f test n low high = agree 9 f div_by test n (omega arith)

pub divisor-is-standard : DivisorIsStandard
unfolding every div_table
divisor-is-standard = at-each-length _ refl
