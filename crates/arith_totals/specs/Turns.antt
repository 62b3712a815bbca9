-- Totals as the code holds them. Definitions only.
use Rattle.std.specs.Prelude.{◌≡◌, List, [], ◌∷◌, ℕ, ◌*◌, ◌^◌, ◌≤◌, ℤ, nat_abs, get_or}
use Rattle.cdef_spec.specs.LoopForm.{signed}

-- signed numbers without their signs
unfoldable pub plain_of : List ℤ → List ℕ
plain_of [] = []
plain_of (z ∷ zs) = nat_abs z ∷ plain_of zs

-- no total is negative, and each is at most 64 * 2 ^ 53: 64 distances, each below 2 ^ 53
pub record Low (l : List ℤ) : Type 0 where
  pub is : l ≡ signed (plain_of l)
  pub each : (i : ℕ) → get_or (plain_of l) i 0 ≤ 64 * 2 ^ 53
