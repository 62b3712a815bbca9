-- Laws of the best: one cost more, all eight, and from equal costs.
use Rattle.std.specs.Prelude.{◌≡◌, List, ℕ, ◌+◌, ◌-◌, ◌%◌, ◌≤◌, ◌<◌, get_or}
use Rattle.std.proofs.Math.Path.{refl}
use Rattle.std.proofs.Common.{◌∙◌, add-one, arith}
use borrow.Author.Tests.{lt-ltb, le-ltb}
use Rattle.cdef_spec.specs.Words.{for, ◌>>◌}
use Rattle.cdef_spec.specs.Standard.{Best, better, best}
use Rattle.direction_best.specs.Best.{best_to, best_of}

-- ---- the best of the first n costs

module _ (c : ℕ → ℕ) where
  pub best_none : record { best_cost = 0; y_dir = 0 } ≡ best_to c 0
  unfolding best_to
  best_none = refl

  pub best-all : best_to c 8 ≡ best c
  unfolding best_to best for
  best-all = refl

  pub best-new : (n m d : ℕ) → record { best_cost = m; y_dir = d } ≡ best_to c n → m < c n → record { best_cost = c n; y_dir = n } ≡ best_to c (n + 1)
  unfolding best_to better
  best-new n m d e h = rw (add-one n, ← e, lt-ltb m (c n) h)

  pub best-old : (n m d : ℕ) → record { best_cost = m; y_dir = d } ≡ best_to c n → c n ≤ m → record { best_cost = m; y_dir = d } ≡ best_to c (n + 1)
  unfolding best_to better
  best-old n m d e h = rw (add-one n, ← e, le-ltb m (c n) h)

pub found-is : (l : List ℕ) (n m d v : ℕ) → record { best_cost = m; y_dir = d } ≡ best_to (λ k. get_or l k 0) n → n ≡ 8 → v ≡ (m - get_or l ((d + 4) % 8) 0) >> 10 → record { direction = d; variance = v } ≡ best_of l
unfolding best_of
found-is l n m d v e h g =
    let b : record { best_cost = m; y_dir = d } ≡ best (λ k. get_or l k 0) = e ∙ rw h (best-all (λ k. get_or l k 0)) in
    rw (g, ← b)

-- ---- from equal costs

module _ (c c' : ℕ → ℕ) (same : (d : ℕ) → d < 8 → c d ≡ c' d) where
  better-same : (d : ℕ) → d < 8 → {b b' : Best} → b ≡ b' → better c d b ≡ better c' d b'
  unfolding better
  better-same d h {b} {b'} e = rw (e, same d h)

  pub best-same : best c ≡ best c'
  unfolding best for
  best-same = better-same 7 (omega arith) (better-same 6 (omega arith) (better-same 5 (omega arith) (better-same 4 (omega arith) (better-same 3 (omega arith) (better-same 2 (omega arith) (better-same 1 (omega arith) (better-same 0 (omega arith) refl)))))))
