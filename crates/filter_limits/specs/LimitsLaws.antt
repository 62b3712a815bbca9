-- A tap that is not marked, and one that is.
use Rattle.std.specs.Prelude.{◌≡◌, refl, Bool, true, false, cond, ℕ, ◌%◌, ◌≤◌, eqb}
use Rattle.std.proofs.Common.{arith, eqb-true}
use Rattle.std.proofs.lemmas.Bool.{eqb-false}
use Rattle.filter_limits.specs.Limits.{least_of, unmarked_of, most_of, lowest_of, highest_of, further_of, seen_of, pair_limit, limit_of}
use Rattle.filter_limits.specs.declared.Pair.{Pair}
use Rattle.filter_limits.specs.declared.Pairs.{Pairs}

-- the remainder by the mark
pub unmarked-rest : (t : ℕ) → t ≤ 16384 → t % 16384 ≡ unmarked_of t
unfolding unmarked_of
unmarked-rest t h = go (eqb t 16384) refl
  where
    go : (b : Bool) → eqb t 16384 ≡ b → t % 16384 ≡ cond b 0 t
    go true e = let m : t ≡ 16384 = eqb-true t 16384 e in omega arith
    go false e = let n : t ≡ 16384 → ⊥ = eqb-false t 16384 e in omega arith

pub unmarked-le : (t : ℕ) → unmarked_of t ≤ t
unfolding unmarked_of
unmarked-le t = go (eqb t 16384)
  where
    go : (b : Bool) → cond b 0 t ≤ t
    go true = omega arith
    go false = omega arith

-- the two limits alike
pub further-le : (b : Bool) (x y m : ℕ) → x ≤ m → y ≤ m → further_of b x y ≤ m
unfolding further_of
further-le false x y m h g = omega arith
further-le true x y m h g = omega arith

pub pair-is : (b : Bool) (p : Pair) → further_of b (seen_of b p.on) (seen_of b p.back) ≡ pair_limit b p
unfolding further_of seen_of pair_limit least_of most_of
pair-is false p = refl
pair-is true p = refl

pub limit-is : (b : Bool) (e : Pairs) (c : ℕ) → further_of b
    (further_of b (further_of b (pair_limit b e.p0) (pair_limit b e.p1)) (further_of b (pair_limit b e.q0) (pair_limit b e.q1)))
    (further_of b (further_of b (pair_limit b e.r0) (pair_limit b e.r1)) c) ≡ limit_of b e c
unfolding further_of pair_limit limit_of lowest_of highest_of
limit-is false e c = refl
limit-is true e c = refl
