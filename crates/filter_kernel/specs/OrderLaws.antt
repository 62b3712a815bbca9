-- Twelve numbers and a start, folded one by one or by pairs: the same least and the same greatest.
use Rattle.std.specs.Prelude.{◌≡◌, ℕ, min, max}
use Rattle.std.proofs.Math.Nat.{min_comm, max_comm}
use Rattle.std.proofs.Common.{arith}

max_assoc : (a b c : ℕ) → max (max a b) c ≡ max a (max b c)
max_assoc a b c = omega arith

max-left : (a b c : ℕ) → max a (max b c) ≡ max b (max a c)
max-left a b c = omega arith

min_assoc : (a b c : ℕ) → min (min a b) c ≡ min a (min b c)
min_assoc a b c = omega arith

min-left : (a b c : ℕ) → min a (min b c) ≡ min b (min a c)
min-left a b c = omega arith

pub max-twelve : (v a b c d e f g h i j k l : ℕ)
    → max (max (max (max (max (max (max (max (max (max (max (max v a) b) c) d) e) f) g) h) i) j) k) l
    ≡ max (max (max (max a b) (max c d)) (max (max e f) (max g h))) (max (max (max i j) (max k l)) v)
max-twelve v a b c d e f g h i j k l = simp (max_assoc, max_comm, max-left)

pub min-twelve : (v a b c d e f g h i j k l : ℕ)
    → min (min (min (min (min (min (min (min (min (min (min (min v a) b) c) d) e) f) g) h) i) j) k) l
    ≡ min (min (min (min a b) (min c d)) (min (min e f) (min g h))) (min (min (min i j) (min k l)) v)
min-twelve v a b c d e f g h i j k l = simp (min_assoc, min_comm, min-left)
