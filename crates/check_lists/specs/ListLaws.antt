-- Laws of the tests on whole lists, as a loop checks them entry by entry.
use Rattle.std.specs.Prelude.{◌≡◌, Bool, ◌&&◌, eqb, get_or, length}
use Rattle.std.proofs.Math.Path.{refl}
use Rattle.std.proofs.Common.{sym, ap, ◌∙◌, arith, pow_pos, rules, tests, Some}
use Rattle.std.proofs.Math.Bool.{true, false}
use mathlib.Core.List.{List, [], ◌∷◌}
use Prim.Native.Nat.{ℕ, zero, suc, ◌+◌, ◌-◌, ◌*◌, ◌/◌, ◌^◌, ◌≤◌}
use Rattle.std.proofs.Math.Numerals.{add-one}
use borrow.Author.Tests.{lt-ltb}
use Rattle.std.specs.Int.Bits.{bit_or}
use Rattle.std.specs.List.{list_all, fold}
use Rattle.std.proofs.Math.ListN.{take, drop}
use Rattle.std.specs.Ordering.{partial_lt, nat_cmp}
use Rattle.std.proofs.Math.Dec.{ltb}
use Rattle.cdef_spec.specs.Words.{every}
use Rattle.cdef_spec.specs.Questions.{all_below, all_taken, sample_taken}
use Rattle.check_lists.specs.Quarters.{in_four}
use Rattle.check_samples.specs.LookedLaws.{or-below, shifted_none, row-of, row_below}

and_one : (a : Bool) → true && a ≡ a && true
and_one true = refl
and_one false = refl

and_assoc : (a b c : Bool) → (a && b) && c ≡ a && (b && c)
and_assoc true b c = refl
and_assoc false b c = refl

every_front : (n : ℕ) (f : ℕ → Bool) → every (suc n) f ≡ f 0 && every n (λ k. f (suc k))
unfolding every
every_front zero f = and_one (f 0)
every_front (suc n) f = rw (every_front n f) (and_assoc (f 0) (every n (λ k. f (suc k))) (f (suc n)))

-- two tests of each, and two parts
and-swap : (a b c d : Bool) → (a && b) && (c && d) ≡ (a && c) && (b && d)
and-swap false b c d = refl
and-swap true true c d = refl
and-swap true false true d = refl
and-swap true false false d = refl

every_two : (n : ℕ) (f g : ℕ → Bool) → every n (λ k. f k && g k) ≡ every n f && every n g
unfolding every
every_two zero f g = refl
every_two (suc n) f g = rw (every_two n f g) (and-swap (every n f) (every n g) (f n) (g n))

every-parts : (n m : ℕ) (f : ℕ → Bool) → every (n + m) f ≡ every n f && every m (λ k. f (n + k))
unfolding every
every-parts n zero f = let e : n + 0 ≡ n = omega arith in rw e (and_one (every n f))
every-parts n (suc m) f = let e : n + suc m ≡ suc (n + m) = omega arith in
    rw (e, every-parts n m f) (and_assoc (every n f) (every m (λ k. f (n + k))) (f (n + m)))

every-next : (n m p : ℕ) (f : ℕ → Bool) → p ≡ n + m → every n f && every m (λ k. f (n + k)) ≡ every p f
every-next n m p f e = rw e (sym (every-parts n m f))

every-four : (n : ℕ) (f : ℕ → Bool) → every n (λ k. ((f k && f (n + k)) && f (2 * n + k)) && f (3 * n + k)) ≡ every (4 * n) f
every-four n f =
    every_two n (λ k. (f k && f (n + k)) && f (2 * n + k)) (λ k. f (3 * n + k))
    ∙ rw (every_two n (λ k. f k && f (n + k)) (λ k. f (2 * n + k)), every_two n f (λ k. f (n + k)), every-next n n (2 * n) f (omega arith), every-next (2 * n) n (3 * n) f (omega arith))
    (every-next (3 * n) n (4 * n) f (omega arith))

module _ (f : ℕ → Bool) where
  -- every entry passes, by its index
  pub all-every : (l : List ℕ) → every (length l) (λ k. f (get_or l k 0)) ≡ all_taken f l
  unfolding every all_taken
  all-every [] = refl
  all-every (x ∷ xs) = every_front (length xs) (λ k. f (get_or (x ∷ xs) k 0)) ∙ rw (all-every xs)

pub below-taken : (m : ℕ) (l : List ℕ) → all_taken (λ x. ltb x m) l ≡ all_below m l
unfolding all_below all_taken
below-taken m [] = refl
below-taken m (x ∷ xs) = rw (below-taken m xs)

-- what `all_below` answers at unsigned numbers
less-is : (x m : ℕ) → partial_lt (λ a b. Some (nat_cmp a b)) x m ≡ ltb x m
less-is x m = search (rules, tests)

pub below_all : (m : ℕ) (l : List ℕ) → list_all (λ x. partial_lt (λ a b. Some (nat_cmp a b)) x m) l ≡ all_below m l
unfolding all_below
below_all m [] = refl
below_all m (x ∷ xs) = rw (less-is x m, below_all m xs)

-- the bits of the first k samples
module _ (d : ℕ) (l : List ℕ) where
  -- .. and of those that are left
  pub rest-say : (bits n rest : ℕ) → n ≤ length l → ltb bits (2 ^ d) ≡ every n (λ k. ltb (get_or l k 0) (2 ^ d)) → rest ≡ fold bit_or 0 (take (length l - n) (drop n l)) → eqb (bit_or bits rest / 2 ^ d) 0 ≡ all_below (2 ^ d) l
  unfolding sample_taken
  rest-say bits n rest h e r =
      let low : ltb rest (2 ^ d) ≡ every (length l - n) (λ j. ltb (get_or l (n + j) 0) (2 ^ d)) =
      ap (λ x. ltb x (2 ^ d)) (r ∙ row-of l n (length l - n) (omega arith)) ∙ row_below l d n (length l - n) in
      shifted_none (bit_or bits rest) d
      ∙ or-below d bits rest
      ∙ rw (e, low) (every-next n (length l - n) (length l) (λ k. ltb (get_or l k 0) (2 ^ d)) (omega arith) ∙ all-every (λ x. ltb x (2 ^ d)) l ∙ below-taken (2 ^ d) l)

  -- four streams: the bits of the first k samples of each quarter
  module _ (n : ℕ) where
    pub four-none : ltb 0 (2 ^ d) ≡ every 0 (in_four d l n)
    unfolding every
    four-none = lt-ltb 0 (2 ^ d) (pow_pos d)

    pub four-more : (bits k : ℕ) → ltb bits (2 ^ d) ≡ every k (in_four d l n) → ltb (bit_or bits (bit_or (bit_or (bit_or (get_or l k 0) (get_or l (n + k) 0)) (get_or l (2 * n + k) 0)) (get_or l (3 * n + k) 0))) (2 ^ d) ≡ every (k + 1) (in_four d l n)
    unfolding every in_four
    four-more bits k e =
        rw (
          or-below d bits (bit_or (bit_or (bit_or (get_or l k 0) (get_or l (n + k) 0)) (get_or l (2 * n + k) 0)) (get_or l (3 * n + k) 0)),
          or-below d (bit_or (bit_or (get_or l k 0) (get_or l (n + k) 0)) (get_or l (2 * n + k) 0)) (get_or l (3 * n + k) 0),
          or-below d (bit_or (get_or l k 0) (get_or l (n + k) 0)) (get_or l (2 * n + k) 0),
          or-below d (get_or l k 0) (get_or l (n + k) 0),
          add-one k,
          e,
        )

    -- all four quarters
    pub four-all : (bits k : ℕ) → ltb bits (2 ^ d) ≡ every k (in_four d l n) → k ≡ n → ltb bits (2 ^ d) ≡ every (4 * n) (λ k. ltb (get_or l k 0) (2 ^ d))
    unfolding in_four
    four-all bits k e h = e ∙ rw h (every-four n (λ k. ltb (get_or l k 0) (2 ^ d)))
