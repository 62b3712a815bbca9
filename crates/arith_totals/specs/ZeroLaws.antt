-- A list that is set to zero from the front.
use Rattle.std.specs.Prelude.{◌≡◌, List, ℕ, ◌+◌, ◌<◌, get_or, set, length, replicate}
use Rattle.std.proofs.Common.{sym, ◌∙◌, arith, get_or-set_same, get_or-set_other, ext_get_or}
use Rattle.std.proofs.Math.Decide.{ℕ_discrete}
use Rattle.std.proofs.lemmas.List.{length-replicate, get_or-replicate}

module _ {A : Type 0} (z : A) where
  pub zero_more : (l : List A) (k : ℕ) → ((i : ℕ) → i < k → get_or l i z ≡ z) → k < length l → (i : ℕ) → i < k + 1 → get_or (set l k z) i z ≡ z
  zero_more l k h b i g = go (ℕ_discrete i k)
    where
      go : Dec (i ≡ k) → get_or (set l k z) i z ≡ z
      go (yes e) = rw e (get_or-set_same l k z z b)
      go (no n) = get_or-set_other l k i z z n ∙ h i (omega arith)

  pub zero-all : (l : List A) (n : ℕ) → length l ≡ n → ((i : ℕ) → i < n → get_or l i z ≡ z) → l ≡ replicate n z
  zero-all l n e h = ext_get_or z l (replicate n z) (e ∙ sym (length-replicate n z)) (λ i b. let g : i < n = omega arith in h i g ∙ sym (get_or-replicate n i z z g))
