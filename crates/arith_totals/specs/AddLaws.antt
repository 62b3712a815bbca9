-- A distance added to one total.
use Rattle.std.specs.Prelude.{◌≡◌, List, ℕ, ◌+◌, ◌^◌, ◌<◌, ℤ, pos, nat_abs, ◌+ℤ◌, get_or, set}
use Rattle.std.proofs.Common.{sym, ap, ◌∙◌, arith, SFits, to_z, of_z}
use mir.Syntax.{w64}
use Rattle.cdef_spec.specs.LoopForm.{signed, add_at}
use Rattle.cdef_spec.specs.SignedLaws.{fits, back, back-nat}
use Rattle.cdef_spec.specs.TotalLaws.{get_or-signed, set-signed}
use Rattle.arith_totals.specs.Small.{Small}

-- a list of signed numbers has one list of unsigned ones
signed-once : (t z : List ℕ) → signed t ≡ signed z → (u : ℕ) → get_or t u 0 ≡ get_or z u 0
signed-once t z e u = ap nat_abs (sym (get_or-signed t u) ∙ ap (λ (l : List ℤ). get_or l u (pos 0)) e ∙ get_or-signed z u)

pub small-once : (t z : List ℕ) → signed t ≡ signed z → Small t → Small z
small-once t z e s = record { each = λ u. rw (← signed-once t z e u) (s.each u) }

module _ (l : List ℤ) (t : List ℕ) (e : l ≡ signed t) (s : Small t) (u n : ℕ) (hn : n < 2 ^ 53) where
  sum_is : to_z w64 (of_z w64 (get_or l u (pos 0))) +ℤ to_z w64 n ≡ pos (get_or t u 0 + n)
  sum_is = rw (e, get_or-signed t u, back w64 (pos (get_or t u 0)) (omega (arith, s.each u)), back-nat w64 n (omega arith))

  sum_low : get_or t u 0 + n < 2 ^ 63
  sum_low = omega (arith, s.each u)

  pub add-fits : SFits w64 (to_z w64 (of_z w64 (get_or l u (pos 0))) +ℤ to_z w64 n)
  add-fits = rw sum_is (fits w64 (pos (get_or t u 0 + n)) sum_low)

  pub add_is : set l u (to_z w64 (of_z w64 (to_z w64 (of_z w64 (get_or l u (pos 0))) +ℤ to_z w64 n))) ≡ signed (add_at t u n)
  unfolding add_at
  add_is = rw (sum_is, back w64 (pos (get_or t u 0 + n)) sum_low, e) (set-signed t u (get_or t u 0 + n))
