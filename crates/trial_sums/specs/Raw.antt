-- The sums and limits of samples of a list. A mark is a value like another in the sums and for the least, and counts as 0 for the greatest. Definitions only.
use Rattle.std.specs.Prelude.{◌≡◌, List, [], ℕ, ◌+◌, ℤ, pos, ◌+ℤ◌, ◌*ℤ◌, get_or}
use Rattle.arith_sample.specs.Upto.{upto}
use Rattle.filter_limits.specs.declared.Pair.{Pair}
use Rattle.filter_limits.specs.Limits.{lowest_of, highest_of}
use Rattle.filter_rows.specs.declared.Taps.{Taps}
use Rattle.filter_rows.specs.declared.Strength.{Strength}
use Rattle.filter_rows.specs.Pairs.{pair_of, pairs_of}
use Rattle.plane_taps.specs.Plain.{pair_plain, pri_plain}
use Rattle.trial_runs.specs.declared.Limits.{Limits}

-- the primary sum of the sample at k
unfoldable pub pri_raw : List ℕ → ℕ → Taps → Strength → ℤ
pri_raw l k o f = pri_plain (pair_of l k o.p0) (pair_of l k o.p1) (get_or l k 0) f

-- two pairs, constrained
unfoldable pub side_of : Pair → Pair → ℕ → ℕ → ℕ → ℤ
side_of q r c s sh = pair_plain q c s sh +ℤ pair_plain r c s sh

-- the secondary sum of the sample at k: its near taps' part, and both
unfoldable pub near_raw : List ℕ → ℕ → Taps → ℕ → ℕ → ℤ
near_raw l k o s sh = pos 2 *ℤ side_of (pair_of l k o.q0) (pair_of l k o.r0) (get_or l k 0) s sh

unfoldable pub sec_raw : List ℕ → ℕ → Taps → ℕ → ℕ → ℤ
sec_raw l k o s sh = near_raw l k o s sh +ℤ side_of (pair_of l k o.q1) (pair_of l k o.r1) (get_or l k 0) s sh

-- of the sixteen samples from `at` on
pub record PriKnown (l : List ℕ) (at : ℕ) (o : Taps) (f g h : Strength) (r : List (List ℤ)) : Type 0 where
  pub p1-is : get_or r 0 [] ≡ upto (λ (j : ℕ). pri_raw l (at + j) o f) 16
  pub p2-is : get_or r 1 [] ≡ upto (λ (j : ℕ). pri_raw l (at + j) o g) 16
  pub p3-is : get_or r 2 [] ≡ upto (λ (j : ℕ). pri_raw l (at + j) o h) 16

pub record NearKnown (l : List ℕ) (at : ℕ) (o : Taps) (s sh z zh : ℕ) (r : List (List ℤ)) : Type 0 where
  pub s1-is : get_or r 0 [] ≡ upto (λ (j : ℕ). near_raw l (at + j) o s sh) 16
  pub s2-is : get_or r 1 [] ≡ upto (λ (j : ℕ). near_raw l (at + j) o z zh) 16

pub record SecKnown (l : List ℕ) (at : ℕ) (o : Taps) (s sh z zh : ℕ) (r : List (List ℤ)) : Type 0 where
  pub s1-is : get_or r 0 [] ≡ upto (λ (j : ℕ). sec_raw l (at + j) o s sh) 16
  pub s2-is : get_or r 1 [] ≡ upto (λ (j : ℕ). sec_raw l (at + j) o z zh) 16

pub record LimitsKnown (l : List ℕ) (at : ℕ) (o : Taps) (r : Limits) : Type 0 where
  pub lo-is : r.lo ≡ upto (λ (j : ℕ). lowest_of (pairs_of l (at + j) o) (get_or l (at + j) 0)) 16
  pub hi-is : r.hi ≡ upto (λ (j : ℕ). highest_of (pairs_of l (at + j) o) (get_or l (at + j) 0)) 16
