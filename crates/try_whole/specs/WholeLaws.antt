-- A whole luma block's weighted distances.
use Rattle.std.specs.Prelude.{◌≡◌, refl, List, ℕ, ◌*◌, ◌^◌, ◌≤◌, ◌<◌, Float, get_or}
use Rattle.std.proofs.Common.{◌∙◌}
use Rattle.std.specs.Float.Ieee.{nan}
use Rattle.cdef_spec.specs.declared.DistanceConstants.{DistanceConstants}
use Rattle.cdef_spec.specs.Words.{sum}
use Rattle.cdef_spec.specs.Distance.{squared_difference, squares_limit, squares, spread, weight}
use Rattle.arith_sample.specs.Upto.{get_or-upto}
use Rattle.distance_weight.specs.Weighing.{OfDepth}
use Rattle.distance_weight.specs.WeighingLaws.{times-weight}
use Rattle.distance_sums.specs.Blocks.{at, cell, block_of, Below, Within, weighted_by}
use Rattle.distance_sums.specs.BlockLaws.{block-cell, block-below, squares-same, squares-64}
use Rattle.distance_block.specs.WeightedLaws.{spread_same, spread-high, squares-high, weighted-same, weighted-64-low}
use Rattle.try_whole.specs.Whole.{whole_distances, spreads_of, errors_of, weights_of, times_at, Weighed}

-- ---- trial block t

module _ (a blocks : List ℕ) (depth t : ℕ) (flat : depth ≤ 12) (b : Below a (2 ^ depth)) (w : Within blocks (t * 64) 8 8 8 (2 ^ depth)) where
  abbrev block : List ℕ
  block = block_of blocks (t * 64) 8

  pub trial-below : Below block (2 ^ depth)
  trial-below = block-below blocks (t * 64) 8 (2 ^ depth) w

  trial-spread : spread (cell block) ≡ spread (at blocks (t * 64) 8)
  trial-spread = spread_same _ _ (block-cell blocks (t * 64) 8)

  trial-error : squares 8 8 (cell a) (cell block) ≡ squares 8 8 (cell a) (at blocks (t * 64) 8)
  trial-error = squares-same 8 8 _ _ _ _ (λ i j hi hj. refl) (block-cell blocks (t * 64) 8)

  -- its spread and its squares, as the code computes them
  pub spread-so : (x : List ℕ) (r : ℕ) → x ≡ block → r ≡ spread (cell x) → r ≡ spread (at blocks (t * 64) 8)
  spread-so x r e f = f ∙ rw e trial-spread

  pub error-so : (x : List ℕ) (r : ℕ) → x ≡ block → r ≡ sum 64 (λ k. squared_difference (get_or a k 0) (get_or x k 0)) → r ≡ squares 8 8 (cell a) (at blocks (t * 64) 8)
  error-so x r e f = f ∙ rw e (squares-64 a block ∙ trial-error)

  -- and their limits
  pub spread-limit : spread (at blocks (t * 64) 8) ≤ squares_limit depth
  spread-limit = rw (← trial-spread) (spread-high block depth trial-below)

  pub error-limit : squares 8 8 (cell a) (at blocks (t * 64) 8) ≤ squares_limit depth
  error-limit = rw (← trial-error) (squares-high a depth b block trial-below)

-- ---- each distance is below 2 ^ 53

pub distances-low : (c : DistanceConstants) (depth : ℕ) (a blocks : List ℕ) → OfDepth c depth → Below a (2 ^ depth) → (t : ℕ) → Within blocks (t * 64) 8 8 8 (2 ^ depth) → whole_distances c a blocks t < 2 ^ 53
unfolding whole_distances
distances-low c depth a blocks o b t w =
    rw (← weighted-same c (cell a) (cell a) _ _ (λ m n hm hn. refl) (block-cell blocks (t * 64) 8))
    (weighted-64-low c depth a (block_of blocks (t * 64) 8) o b (block-below blocks (t * 64) 8 (2 ^ depth) w))

-- ---- from the sums and the weights, as the code computes them

module _ (c : DistanceConstants) (depth : ℕ) (a blocks : List ℕ) (o : OfDepth c depth) (b : Below a (2 ^ depth)) (h : (t : ℕ) → t < 12 → Within blocks (t * 64) 8 8 8 (2 ^ depth)) (x : ℕ) (ex : x ≡ spread (cell a)) where
  pub own-limit : x ≤ squares_limit depth
  own-limit = rw ex (spread-high a depth b)

  pub spreads-limit : (s : List ℕ) → s ≡ spreads_of blocks → (t : ℕ) → t < 12 → get_or s t 0 ≤ squares_limit depth
  unfolding spreads_of
  spreads-limit s es t l = rw (es, get_or-upto (λ t. spread (at blocks (t * 64) 8)) 12 t 0 l) (spread-limit a blocks depth t o.flat b (h t l))

  module _ (s e : List ℕ) (w : List Float) (es : s ≡ spreads_of blocks) (ee : e ≡ errors_of a blocks) (ew : w ≡ weights_of c x s) where
    error-at : (t : ℕ) → t < 12 → get_or e t 0 ≡ squares 8 8 (cell a) (at blocks (t * 64) 8)
    unfolding errors_of
    error-at t l = rw (ee, get_or-upto (λ t. squares 8 8 (cell a) (at blocks (t * 64) 8)) 12 t 0 l)

    spread_at : (t : ℕ) → t < 12 → get_or s t 0 ≡ spread (at blocks (t * 64) 8)
    unfolding spreads_of
    spread_at t l = rw (es, get_or-upto (λ t. spread (at blocks (t * 64) 8)) 12 t 0 l)

    weight-at : (t : ℕ) → t < 12 → get_or w t nan ≡ weight c x (get_or s t 0)
    unfolding weights_of
    weight-at t l = rw (ew, get_or-upto (λ t. weight c x (get_or s t 0)) 12 t nan l)

    times-at : (t : ℕ) → t < 12 → times_at e w t ≡ whole_distances c a blocks t
    unfolding times_at whole_distances weighted_by
    times-at t l = times-weight c x (get_or s t 0) (get_or e t 0) (get_or w t nan) (weight-at t l) ∙ rw (ex, spread_at t l, error-at t l)

    pub weighed : Weighed c a blocks e w
    weighed =
        record {
          weighs = λ t l. record {
            constants = c;
            depth = depth;
            first = x;
            second = get_or s t 0;
            deep = o;
            first-low = own-limit;
            second-low = spreads-limit s es t l;
            error-low = rw (error-at t l) (error-limit a blocks depth t o.flat b (h t l));
            is = weight-at t l;
          };
          is = times-at;
          low = λ t l. rw (times-at t l) (distances-low c depth a blocks o b t (h t l));
        }
