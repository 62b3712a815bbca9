-- Laws of how many numbers a line has.
use Rattle.std.specs.Prelude.{ℕ, List, [], ◌∷◌, ◌≡◌, ◌≢◌, ◌+◌, ◌-◌, ◌<◌, zero, suc, cond, eqb, drop, length, refl}
use Rattle.std.specs.List.{AllWithin, HoldsAt}
use Rattle.std.proofs.Common.{sym, ap, ◌∙◌, arith, ne_eqb, eq-eqb}
use Rattle.testlib_lines.specs.Lines.{begins, numbers_behind, numbers_in}

-- with no blank below place i, and one there where it is no end, the numbers behind the first begin behind that place
pub behind_first : (line : List ℕ) (i : ℕ) → AllWithin (λ b. b ≢ 32) line 0 i → (i < length line → HoldsAt (λ b. b ≡ 32) line i) → numbers_behind line ≡ numbers_in (drop (suc i) line)
unfolding numbers_behind numbers_in begins
behind_first [] i before there = refl
behind_first (b ∷ line) zero before there = ap (λ t. cond t (begins line + numbers_behind line) (numbers_behind line)) (eq-eqb b 32 (there (omega arith) b))
behind_first (b ∷ line) (suc i) before there = ap (λ t. cond t (begins line + numbers_behind line) (numbers_behind line)) (ne_eqb b 32 (before 0 b (omega arith) (omega arith))) ∙ behind_first line i (λ k d l h. before (suc k) d (omega arith) (omega arith)) (λ h. λ d. there (omega arith) d)

-- the first number taken away
pub behind_in : (line : List ℕ) → numbers_in line - 1 ≡ numbers_behind line
unfolding numbers_in begins numbers_behind
behind_in [] = refl
behind_in (b ∷ line) = omega arith

pub none_left : (line : List ℕ) → eqb (length line) 0 ≡ eqb (numbers_in line) 0
unfolding numbers_in begins numbers_behind
none_left [] = refl
none_left (b ∷ line) = ne_eqb _ 0 (λ e. omega arith) ∙ sym (ne_eqb _ 0 (λ e. omega arith))
