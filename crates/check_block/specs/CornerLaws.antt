-- A block whose corner is taken begins in the plane that the checks made of the caller's.
use Rattle.std.specs.Prelude.{◌≡◌, true, Bool, Ok, ℕ, ◌<◌}
use Rattle.std.proofs.Common.{sym, ap, ◌∙◌, arith}
use Rattle.cdef_spec.specs.declared.full.FullPlane.{FullPlane}
use Rattle.cdef_spec.specs.Lent.{plane_in_full}
use Rattle.cdef_spec.specs.Answers.{code_of}
use Rattle.cdef_spec.specs.Document01.{Plane}
use Rattle.cdef_spec.specs.Questions.{corner_taken}
use Rattle.check_sides.specs.SideLaws.{corner-low}

module _ (f : FullPlane) (p : Plane) (same : plane_in_full f ≡ p) where
  pub width-is : f.width ≡ p.width
  unfolding plane_in_full
  width-is = ap (λ (q : Plane). q.width) same

  pub height-is : f.height ≡ p.height
  unfolding plane_in_full
  height-is = ap (λ (q : Plane). q.height) same

  pub corner_in : {said : Bool} (y x : ℕ) → said ≡ corner_taken p y x → said ≡ true → (x < f.width) × (y < f.height)
  corner_in y x e h = let k = corner-low p y x (sym e ∙ h) in (omega (arith, k.0, width-is), omega (arith, k.1, height-is))

-- where the checks of the caller's plane pass, so do those of the plane that they make of it
pub passes : (code : Plane → ℕ) (f : FullPlane) (p : Plane) → plane_in_full f ≡ p → code_of (Ok f) ≡ code p → code (plane_in_full f) ≡ 0
unfolding code_of
passes code f p s e = rw s (sym e)
