-- The least and the greatest of a sample and its taps, as the window holds them: a mark is never the least, and counts as 0 for the greatest. A pair is a tap and its opposite. Definitions only.
use Rattle.std.specs.Prelude.{Bool, cond, ℕ, ◌≤◌, min, max, eqb}
use Rattle.filter_limits.specs.declared.Pair.{Pair}
use Rattle.filter_limits.specs.declared.Pairs.{Pairs}

-- no tap above the mark
pub record HeldPair (p : Pair) : Type 0 where
  pub on : p.on ≤ 16384
  pub back : p.back ≤ 16384

pub record HeldPairs (e : Pairs) : Type 0 where
  pub p0 : HeldPair e.p0
  pub p1 : HeldPair e.p1
  pub q0 : HeldPair e.q0
  pub q1 : HeldPair e.q1
  pub r0 : HeldPair e.r0
  pub r1 : HeldPair e.r1

-- the least of a pair
unfoldable pub least_of : Pair → ℕ
least_of p = min p.on p.back

-- a tap, 0 where it is marked
unfoldable pub unmarked_of : ℕ → ℕ
unmarked_of t = cond (eqb t 16384) 0 t

-- the greatest of a pair
unfoldable pub most_of : Pair → ℕ
most_of p = max (unmarked_of p.on) (unmarked_of p.back)

-- the least and the greatest of six pairs and the centre
unfoldable pub lowest_of : Pairs → ℕ → ℕ
lowest_of e c =
    min (min (min (least_of e.p0) (least_of e.p1)) (min (least_of e.q0) (least_of e.q1)))
    (min (min (least_of e.r0) (least_of e.r1)) c)

unfoldable pub highest_of : Pairs → ℕ → ℕ
highest_of e c =
    max (max (max (most_of e.p0) (most_of e.p1)) (max (most_of e.q0) (most_of e.q1)))
    (max (max (most_of e.r0) (most_of e.r1)) c)

-- the limit that is the least (false) or the greatest (true): of two samples, of a tap as it is taken, of a pair, of six pairs and the centre
unfoldable pub further_of : Bool → ℕ → ℕ → ℕ
further_of b x y = cond b (max x y) (min x y)

unfoldable pub seen_of : Bool → ℕ → ℕ
seen_of b t = cond b (unmarked_of t) t

unfoldable pub pair_limit : Bool → Pair → ℕ
pair_limit b p = cond b (most_of p) (least_of p)

unfoldable pub limit_of : Bool → Pairs → ℕ → ℕ
limit_of b e c = cond b (highest_of e c) (lowest_of e c)
