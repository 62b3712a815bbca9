-- What the parts say: a part's error code is the call's; where a part passes, the next one is checked.
use Rattle.std.specs.Prelude.{◌≡◌, List, [], ◌∷◌, ◌++◌, ℕ}
use Rattle.std.proofs.Common.{sym, ◌∙◌, arith, ne_eqb}
use Rattle.cdef_spec.specs.Questions.{Question, first_no}
use Rattle.cdef_spec.specs.QuestionLaws.{Numbered, first-join, none, more}
use Rattle.check_picture.specs.Parts.{sides_first}

-- one, two and three questions, none with the number 0
pub one : (x : Question) → (x.number ≡ 0 → ⊥) → Numbered (x ∷ [])
one x h = more h none

pub two : (x y : Question) → (x.number ≡ 0 → ⊥) → (y.number ≡ 0 → ⊥) → Numbered (x ∷ y ∷ [])
two x y h k = more h (more k none)

pub three : (x y z : Question) → (x.number ≡ 0 → ⊥) → (y.number ≡ 0 → ⊥) → (z.number ≡ 0 → ⊥) → Numbered (x ∷ y ∷ z ∷ [])
three x y z h k l = more h (more k (more l none))

-- a part and the rest
module _ (first rest : List Question) (h : Numbered first) where
  pub part-stops : (n : ℕ) → n ≡ first_no first → (n ≡ 0 → ⊥) → n ≡ first_no (first ++ rest)
  part-stops n e k = sym (first-join first rest h ∙ rw (← e, ne_eqb n 0 k))

  pub part-passed : first_no first ≡ 0 → first_no (first ++ rest) ≡ first_no rest
  part-passed z = first-join first rest h ∙ rw z

-- 1 and 2, then more
module _ (depth width height : ℕ) (rest : List Question) where
  sides-numbered : Numbered (sides_first depth width height)
  sides-numbered = two _ _ (λ e. omega arith) (λ e. omega arith)

  pub sides-stop : (n : ℕ) → n ≡ first_no (sides_first depth width height) → (n ≡ 0 → ⊥) → n ≡ first_no (sides_first depth width height ++ rest)
  sides-stop = part-stops (sides_first depth width height) rest sides-numbered

  pub sides-passed : first_no (sides_first depth width height) ≡ 0 → first_no (sides_first depth width height ++ rest) ≡ first_no rest
  sides-passed = part-passed (sides_first depth width height) rest sides-numbered
