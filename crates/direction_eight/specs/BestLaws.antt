-- Laws of the best direction of each of eight blocks: a lane's step, and that the directions and variances are the standard's.
use Rattle.std.specs.Prelude.{◌≡◌, Bool, List, ℤ}
use Rattle.std.proofs.Math.Path.{refl, ap}
use Rattle.std.proofs.Common.{◌∙◌, add-one}
use Rattle.std.proofs.Math.Bool.{true, false, cond}
use Prim.Native.Nat.{ℕ, zero, suc, ◌+◌, ◌-◌, ◌*◌, ◌/◌, ◌%◌, ◌≤◌, ◌<◌, max}
use Rattle.std.proofs.Math.Decide.{dec_lt}
use native.Mathlib.Omega.{arith}
use borrow.Author.Tests.{ltb-true, ltb-false}
use Rattle.std.proofs.Math.Dec.{ltb}
use Rattle.std.proofs.Math.ListN.{get_or}
use Rattle.cdef_spec.specs.Words.{◌>>◌}
use Rattle.cdef_spec.specs.Standard.{cost, Best, better, best, direction, variance}
use Rattle.arith_sample.specs.Upto.{upto, get_or-upto, upto-ext}
use Rattle.direction_best.specs.Best.{best_to}
use Rattle.direction_best.specs.BestLaws.{best-all}
use Rattle.direction_best.specs.BestLaws.{best-same}
use Rattle.direction_lane_sums.specs.Lines.{lane_of}
use Rattle.direction_lane_costs.specs.Costs.{cost_at, costs_of}
use Rattle.direction_eight.specs.Best.{lane_cost, bests_of, lane_direction, lane_variance, found_by_costs, found_by_samples}

-- ---- one more direction

module _ (c : ℕ → ℕ) where
  pub dir-more : (n : ℕ) → cond (ltb (best_to c n).best_cost (c n)) n (best_to c n).y_dir ≡ (best_to c (n + 1)).y_dir
  unfolding best_to better
  dir-more n = rw (add-one n) (go (ltb (best_to c n).best_cost (c n)))
    where
      go : (t : Bool) → cond t n (best_to c n).y_dir ≡ (cond t (record { best_cost = c n; y_dir = n }) (best_to c n)).y_dir
      go true = refl
      go false = refl

  pub most-more : (n : ℕ) → max (best_to c n).best_cost (c n) ≡ (best_to c (n + 1)).best_cost
  unfolding best_to better
  most-more n = rw (add-one n) (go (ltb (best_to c n).best_cost (c n)) refl)
    where
      go : (t : Bool) → ltb (best_to c n).best_cost (c n) ≡ t → max (best_to c n).best_cost (c n) ≡ (cond t (record { best_cost = c n; y_dir = n }) (best_to c n)).best_cost
      go true e = let h : (best_to c n).best_cost < c n = ltb-true _ _ e in omega arith
      go false e = let h : c n ≤ (best_to c n).best_cost = ltb-false _ _ e in omega arith

  -- ---- bounds

  dir-low : (n : ℕ) → (best_to c n).y_dir ≤ n - 1
  unfolding best_to better
  dir-low zero = omega arith
  dir-low (suc n) = go (dir-low n) (ltb (best_to c n).best_cost (c n))
    where
      go : (best_to c n).y_dir ≤ n - 1 → (t : Bool) → (cond t (record { best_cost = c n; y_dir = n }) (best_to c n)).y_dir ≤ suc n - 1
      go ih true = omega arith
      go ih false = omega arith

  most-high : (n k : ℕ) → k < n → c k ≤ (best_to c n).best_cost
  unfolding best_to better
  most-high zero k h = absurd (omega arith)
  most-high (suc n) k h = go (most-high n k) (dec_lt k n) (ltb (best_to c n).best_cost (c n)) refl
    where
      go : (k < n → c k ≤ (best_to c n).best_cost) → Dec (k < n) → (t : Bool) → ltb (best_to c n).best_cost (c n) ≡ t
          → c k ≤ (cond t (record { best_cost = c n; y_dir = n }) (best_to c n)).best_cost
      go ih (yes l) true e = let u : (best_to c n).best_cost < c n = ltb-true _ _ e in omega (arith, ih l)
      go ih (yes l) false e = ih l
      go ih (no l) true e = let q : k ≡ n = omega arith in rw q (omega arith)
      go ih (no l) false e = let q : k ≡ n = omega arith in rw q (ltb-false _ _ e)

-- ---- lanes

module _ (c : List ℕ) (n l : ℕ) (hl : l < 8) where
  pub dir-at : get_or (bests_of c n).directions l 0 ≡ (best_to (lane_cost c l) n).y_dir
  unfolding bests_of
  dir-at = get_or-upto _ 8 l 0 hl

  pub most-at : get_or (bests_of c n).most l 0 ≡ (best_to (lane_cost c l) n).best_cost
  unfolding bests_of
  most-at = get_or-upto _ 8 l 0 hl

module _ (c : List ℕ) (l : ℕ) where
  pub dir-8 : (best_to (lane_cost c l) 8).y_dir < 8
  dir-8 = omega (arith, dir-low (lane_cost c l) 8)

  pub across-low : (d : ℕ) → get_or c ((d + 4) % 8 * 8 + l) 0 ≤ (best_to (lane_cost c l) 8).best_cost
  unfolding lane_cost
  across-low d = most-high (lane_cost c l) 8 ((d + 4) % 8) (omega arith)

  pub dir-found : (best_to (lane_cost c l) 8).y_dir ≡ lane_direction c l
  unfolding lane_direction
  dir-found = ap (λ (b : Best). b.y_dir) (best-all (lane_cost c l))

  pub variance-found : (m d : ℕ) → m ≡ (best_to (lane_cost c l) 8).best_cost → d ≡ (best_to (lane_cost c l) 8).y_dir → (m - get_or c ((d + 4) % 8 * 8 + l) 0) >> 10 ≡ lane_variance c l
  unfolding lane_variance lane_cost
  variance-found m d em ed = rw (em, ed, best-all (lane_cost c l))

-- ---- THE DIRECTIONS AND VARIANCES are the standard's

module _ (s : List ℤ) where
  lane-is : (l d : ℕ) → l < 8 → d < 8 → lane_cost (costs_of s) l d ≡ cost (lane_of s l) d
  unfolding lane_cost costs_of
  lane-is l d hl hd =
      let a : (d * 8 + l) % 8 ≡ l = omega arith in
      let b : (d * 8 + l) / 8 ≡ d = omega arith in
      get_or-upto (cost_at s) 64 (d * 8 + l) 0 (omega arith) ∙ rw (a, b)

  lane-best : (l : ℕ) → l < 8 → best (lane_cost (costs_of s) l) ≡ best (cost (lane_of s l))
  lane-best l hl = best-same _ _ (λ d hd. lane-is l d hl hd)

  direction-is : (l : ℕ) → l < 8 → lane_direction (costs_of s) l ≡ direction (lane_of s l)
  unfolding lane_direction direction
  direction-is l hl = ap (λ (b : Best). b.y_dir) (lane-best l hl)

  variance-is : (l : ℕ) → l < 8 → lane_variance (costs_of s) l ≡ variance (lane_of s l)
  unfolding lane_variance variance
  variance-is l hl = rw (lane-best l hl, lane-is l (((best (cost (lane_of s l))).y_dir + 4) % 8) hl (omega arith))

  pub founds-are : found_by_costs (costs_of s) ≡ found_by_samples s
  unfolding found_by_costs found_by_samples
  founds-are =
      let a : upto (lane_direction (costs_of s)) 8 ≡ upto (λ l. direction (lane_of s l)) 8 = upto-ext _ _ 8 direction-is in
      let b : upto (lane_variance (costs_of s)) 8 ≡ upto (λ l. variance (lane_of s l)) 8 = upto-ext _ _ 8 variance-is in
      rw (a, b)
