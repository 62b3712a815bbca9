-- The twelve pairs and their trial numbers, as they are computed.
use Rattle.std.specs.Prelude.{◌≡◌, Bool, false, cond, ◌&&◌, ◌||◌, get_or, Option, Some, None, is_some}
use Rattle.std.proofs.Math.Path.{refl}
use Rattle.std.proofs.Common.{sym, arith}
use Rattle.std.proofs.Math.Bool.{true}
use Prim.Native.Nat.{ℕ, zero, suc, ◌+◌, ◌*◌, ◌/◌, ◌%◌, ◌≤◌, ◌<◌}
use borrow.Author.Tests.{ne_eqb, le-leb, lt-leb}
use Rattle.std.proofs.Math.Dec.{leb, eqb}
use Rattle.cdef_spec.specs.Words.{every}
use Rattle.cdef_spec.specs.WordsLaws.{agree}
use Rattle.cdef_spec.specs.declared.UnitPair.{UnitPair}
use Rattle.cdef_spec.specs.Document01.{primaries, secondaries, trial_pair, index_of, trial_number, one_of, is_trial_pair}

-- ---- the pair of a trial number

primary-is : (i : ℕ) → i < 4 → cond (eqb i 3) 4 i ≡ get_or primaries i 0
unfolding every primaries
primary-is = agree 4 (λ i. cond (eqb i 3) 4 i) (λ i. get_or primaries i 0) refl

secondary-is : (i : ℕ) → i < 3 → i ≡ get_or secondaries i 0
unfolding every secondaries
secondary-is = agree 3 (λ i. i) (λ i. get_or secondaries i 0) refl

pub pair_is : (t p : ℕ) → t < 12 → p ≡ cond (eqb (t % 4) 3) 4 (t % 4) → ◌≡◌ {A = UnitPair} (record { primary = p; secondary = t / 4 }) (trial_pair t)
unfolding trial_pair
pair_is t p h e = rw (e, primary-is (t % 4) (omega arith), ← secondary-is (t / 4) (omega arith))

-- ---- a pair of the twelve

and-off : (a : Bool) → a && false ≡ false
and-off true = refl
and-off false = refl

module _ (p s : ℕ) where
  abbrev test : Bool
  test = is_trial_pair (record { primary = p; secondary = s })

  no-secondary : 2 < s → false ≡ test
  unfolding is_trial_pair one_of secondaries
  no-secondary h = rw (ne_eqb s 0 (λ e. omega arith), ne_eqb s 1 (λ e. omega arith), ne_eqb s 2 (λ e. omega arith)) (sym (and-off (one_of p primaries)))

  second-on : s ≤ 2 → one_of s secondaries ≡ true
  unfolding one_of secondaries
  second-on h = go s h
    where
      go : (n : ℕ) → n ≤ 2 → eqb n 0 || (eqb n 1 || (eqb n 2 || false)) ≡ true
      go zero h = refl
      go (suc zero) h = refl
      go (suc (suc zero)) h = refl
      go (suc (suc (suc n))) h = absurd (omega arith)

  primary-four : s ≤ 2 → p ≡ 4 → true ≡ test
  unfolding is_trial_pair one_of primaries
  primary-four h e = rw (e, second-on h)

  primary-low : s ≤ 2 → (p ≡ 4 → ⊥) → leb p 2 ≡ test
  unfolding is_trial_pair one_of primaries
  primary-low h n = rw (second-on h, ne_eqb p 4 n) (go p)
    where
      go : (k : ℕ) → leb k 2 ≡ (eqb k 0 || (eqb k 1 || (eqb k 2 || (false || false)))) && true
      go zero = refl
      go (suc zero) = refl
      go (suc (suc zero)) = refl
      go (suc (suc (suc k))) = rw (lt-leb (suc (suc (suc k))) 2 (omega arith), ne_eqb (suc (suc (suc k))) 0 (λ e. omega arith), ne_eqb (suc (suc (suc k))) 1 (λ e. omega arith), ne_eqb (suc (suc (suc k))) 2 (λ e. omega arith))

-- ---- the trial number

module _ (p s : ℕ) where
  abbrev number : Option ℕ
  number = cond (is_trial_pair (record { primary = p; secondary = s })) (Some (trial_number (record { primary = p; secondary = s }))) None

  second-index : (n : ℕ) → n ≤ 2 → index_of n secondaries ≡ n
  unfolding index_of secondaries
  second-index zero h = refl
  second-index (suc zero) h = refl
  second-index (suc (suc zero)) h = refl
  second-index (suc (suc (suc n))) h = absurd (omega arith)

  first-index : (n : ℕ) → n ≤ 2 → index_of n primaries ≡ n
  unfolding index_of primaries
  first-index zero h = refl
  first-index (suc zero) h = refl
  first-index (suc (suc zero)) h = refl
  first-index (suc (suc (suc n))) h = absurd (omega arith)

  pub number-none : 2 < s → None ≡ number
  number-none h = rw (← no-secondary p s h)

  pub number-low : s ≤ 2 → p ≤ 2 → Some (s * 4 + p) ≡ number
  unfolding trial_number
  number-low h k = rw (← primary-low p s h (λ e. omega arith), le-leb p 2 k, second-index s h, first-index p k)

  pub number-four : s ≤ 2 → p ≡ 4 → Some (s * 4 + 3) ≡ number
  unfolding trial_number index_of primaries
  number-four h k = rw (← primary-four p s h k, second-index s h, k)

  pub number-other : s ≤ 2 → 2 < p → (p ≡ 4 → ⊥) → None ≡ number
  number-other h k n = rw (← primary-low p s h n, lt-leb p 2 k)

-- ---- the test

pub is-trial : (p : UnitPair) (o : Option ℕ) → o ≡ cond (is_trial_pair p) (Some (trial_number p)) None → is_some o ≡ is_trial_pair p
is-trial p o e = rw e (go (is_trial_pair p))
  where
    go : (b : Bool) → is_some (cond b (Some (trial_number p)) None) ≡ b
    go true = refl
    go false = refl
