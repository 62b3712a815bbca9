-- The best of the costs, in the code's form. Definitions only.
use Rattle.std.specs.Prelude.{ℕ, zero, suc, ◌+◌, ◌-◌, ◌%◌, List, get_or}
use Rattle.cdef_spec.specs.Words.{◌>>◌}
use Rattle.cdef_spec.specs.Standard.{Best, better, best}
use Rattle.cdef_spec.specs.declared.Found.{Found}

-- the best of the first n costs
unfoldable pub best_to : (ℕ → ℕ) → ℕ → Best
best_to c zero = record { best_cost = 0; y_dir = 0 }
best_to c (suc n) = better c n (best_to c n)

-- the best of eight
unfoldable pub best_of : List ℕ → Found
best_of c =
    let cost : ℕ → ℕ = λ d. get_or c d 0 in
    let b = best cost in
    record { direction = b.y_dir; variance = (b.best_cost - cost ((b.y_dir + 4) % 8)) >> 10 }
