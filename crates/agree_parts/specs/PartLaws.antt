-- Laws of the test of the pairs: the units one after the other.
use Rattle.std.specs.Prelude.{◌≡◌, refl, Bool, true, List, ℕ, zero, suc, ◌≤◌, ◌<◌, length, get_or, take}
use Rattle.std.specs.List.{list_all, range_with_len}
use Rattle.std.proofs.Common.{sym, ap, ◌∙◌, arith, add-one, le-leb}
use Rattle.std.proofs.lemmas.List.{take_all}
use Rattle.std.proofs.lemmas.List.Folds.{list_all_more}
use Rattle.std.proofs.lemmas.List.FromFn.{length-range_with_len, get_or-range_with_len}
use Rattle.std.proofs.lemmas.Bool.{lt-leb}
use Rattle.cdef_spec.specs.declared.UnitPair.{UnitPair}
use Rattle.cdef_spec.specs.Words.{every}
use Rattle.cdef_spec.specs.Document01.{is_trial_pair}
use Rattle.cdef_spec.specs.Picture.{pair_at}
use Rattle.agree_parts.specs.Parts.{trial_pairs}

-- a test of the numbers below n, one after the other
module _ (f : ℕ → Bool) where
  every-of : (n i : ℕ) → i ≤ n → list_all f (take i (range_with_len 0 n)) ≡ every i f
  unfolding every
  every-of n zero h = refl
  every-of n (suc i) h =
      let l : i < length (range_with_len 0 n) = omega (arith, length-range_with_len 0 n) in
      let v : get_or (range_with_len 0 n) i 0 ≡ i = omega (arith, get_or-range_with_len 0 n i 0 (omega arith)) in
      rw (← add-one i) (list_all_more f (range_with_len 0 n) i 0 l ∙ rw (every-of n i (omega arith), v))

  pub every-below : (n : ℕ) → list_all f (range_with_len 0 n) ≡ every n f
  every-below n = ap (list_all f) (sym (take_all n (range_with_len 0 n) (omega (arith, length-range_with_len 0 n)))) ∙ every-of n n (omega arith)

module _ (ps : List UnitPair) where
  pub many-pairs : 4096 < length ps → true ≡ trial_pairs ps
  unfolding trial_pairs
  many-pairs h = rw (lt-leb (length ps) 4096 h)

  pub few-pairs : (b : Bool) → length ps ≤ 4096 → every (length ps) (λ u. is_trial_pair (pair_at ps u)) ≡ b → b ≡ trial_pairs ps
  unfolding trial_pairs
  few-pairs b h e = rw (le-leb (length ps) 4096 h) (sym e)
