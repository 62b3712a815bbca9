-- Laws of storing a run of sixteen samples.
use Rattle.std.specs.Prelude.{◌≡◌, ◌⊎◌, List, ℕ, zero, suc, ◌+◌, ◌-◌, ◌*◌, ◌≤◌, ◌<◌, get_or, set, length, ℤ}
use Rattle.std.proofs.Math.Path.{refl, ap}
use Rattle.std.proofs.Common.{arith, sym, ◌∙◌, add-one, ⊎_elim, inl, inr, ext_get_or, get_or-set_same, get_or-set_other}
use Rattle.std.proofs.Math.Decide.{dec_le, ℕ_discrete}
use Rattle.std.proofs.lemmas.List.{places}
use borrow.Rule.Slice.PartMut.{put_mid}
use Rattle.cdef_spec.specs.Standard.{sample}
use Rattle.cdef_spec.specs.Document01.{or_else}
use Rattle.cdef_spec.specs.LoopForm.{put, put_row}
use Rattle.cdef_spec.proofs.PlaneLaws.{row_more, row_same, row-none, length-put-row}
use Rattle.arith_sample.specs.Upto.{upto, get_or-upto}
use Rattle.trial_runs.specs.Runs.{raised_at, clipped_at, run_tap, raised_tap, clipped_tap}

-- one sample more
pub run_more : (d l v : List ℕ) (t k j : ℕ) → d ≡ put_row l 64 (run_tap v k) t k j → set d (t * 64 + k + j) (get_or v j 0) ≡ put_row l 64 (run_tap v k) t k (j + 1)
unfolding put run_tap or_else
run_more d l v t k j e =
    let a : t * 64 + k + j ≡ t * 64 + (k + j) = omega arith in
    let b : k + j - k ≡ j = omega arith in
    rw (row_more l 64 (run_tap v k) t k j, ← e, a, b)

-- n samples stored at once
module _ (d v : List ℕ) (t k : ℕ) where
  run-suc : (n : ℕ) → put_row d 64 (run_tap v k) t k (suc n) ≡ set (put_row d 64 (run_tap v k) t k n) (t * 64 + k + n) (get_or v n 0)
  run-suc n = sym (rw (add-one n) at (run_more (put_row d 64 (run_tap v k) t k n) d v t k n refl))

  run-beside : (i n : ℕ) → (i < t * 64 + k) ⊎ (t * 64 + k + n ≤ i) → get_or (put_row d 64 (run_tap v k) t k n) i 0 ≡ get_or d i 0
  run-beside i zero h = ap (λ (l : List ℕ). get_or l i 0) (row-none d 64 (run_tap v k) t k)
  run-beside i (suc n) h = rw (run-suc n) (get_or-set_other _ (t * 64 + k + n) i (get_or v n 0) 0 (⊎_elim (λ a e. omega arith) (λ a e. omega arith) h) ∙ run-beside i n (⊎_elim (λ a. inl a) (λ a. inr (omega arith)) h))

  run-at : (j n : ℕ) → j < n → t * 64 + k + n ≤ length d → get_or (put_row d 64 (run_tap v k) t k n) (t * 64 + k + j) 0 ≡ get_or v j 0
  run-at j zero h l = absurd (omega arith)
  run-at j (suc n) h l = rw (run-suc n) (go (λ m. run-at j n m (omega arith)) (ℕ_discrete j n))
    where
      go : (j < n → get_or (put_row d 64 (run_tap v k) t k n) (t * 64 + k + j) 0 ≡ get_or v j 0) → Dec (j ≡ n) → get_or (set (put_row d 64 (run_tap v k) t k n) (t * 64 + k + n) (get_or v n 0)) (t * 64 + k + j) 0 ≡ get_or v j 0
      go ih (yes e) = rw e (get_or-set_same (put_row d 64 (run_tap v k) t k n) (t * 64 + k + n) (get_or v n 0) 0 (omega (arith, length-put-row 64 (run_tap v k) d t k n)))
      go ih (no e) = get_or-set_other (put_row d 64 (run_tap v k) t k n) (t * 64 + k + n) (t * 64 + k + j) (get_or v n 0) 0 (λ q. e (omega arith)) ∙ ih (omega arith)

  pub run-whole : (ys : List ℕ) (at m n : ℕ) → at ≡ t * 64 + k → m ≡ n → at + n ≤ length d → length ys ≡ n → ((j : ℕ) → j < n → get_or ys j 0 ≡ get_or v j 0) → put_mid at m d ys ≡ put_row d 64 (run_tap v k) t k n
  run-whole ys at m n ea em hd hy each =
      let z : length (put_mid at m d ys) ≡ length d = grind (arith, places, hy, em, hd) in
      ext_get_or 0 (put_mid at m d ys) (put_row d 64 (run_tap v k) t k n) (z ∙ sym (length-put-row 64 (run_tap v k) d t k n)) (λ i l. go i (omega (arith, z)) (dec_le at i) (dec_le (at + n) i))
    where
      go : (i : ℕ) → i < length d → Dec (at ≤ i) → Dec (at + n ≤ i) → get_or (put_mid at m d ys) i 0 ≡ get_or (put_row d 64 (run_tap v k) t k n) i 0
      go i l (no a) b = rw (run-beside i n (inl (omega (arith, a)))) (grind (arith, places, hy, em, hd, a))
      go i l (yes a) (yes b) = rw (run-beside i n (inr (omega (arith, b)))) (grind (arith, places, hy, em, hd, b))
      go i l (yes a) (no b) =
          let j : t * 64 + k + (i - at) ≡ i = omega arith in
          let h : i - at < n = omega (arith, b) in
          let p : get_or (put_row d 64 (run_tap v k) t k n) i 0 ≡ get_or v (i - at) 0 = rw j at (run-at (i - at) n h (omega arith)) in
          let y : get_or ys (i - at) 0 ≡ get_or v (i - at) 0 = each (i - at) h in
          grind (arith, places, hy, em, hd, a, h, p, y)

-- a run whose samples are known
module _ (d : List ℕ) (t k : ℕ) (v : List ℕ) where
  known : (f : ℕ → ℕ) → v ≡ upto f 16 → (x : ℕ) → x < k + 16 → get_or v (x - k) 0 ≡ f (x - k)
  known f e x h = rw e (get_or-upto f 16 (x - k) 0 (omega arith))

  pub run-raised : (c : List ℕ) (s : List ℤ) → v ≡ upto (raised_at c s) 16 → put_row d 64 (run_tap v k) t k 16 ≡ put_row d 64 (raised_tap c s k) t k 16
  unfolding run_tap raised_tap
  run-raised c s e = row_same d 64 _ _ t k 16 (λ x a b. ap sample (known (raised_at c s) e x b))

  pub run-clipped : (c : List ℕ) (p s : List ℤ) (lo hi : List ℕ) → v ≡ upto (clipped_at c p s lo hi) 16 → put_row d 64 (run_tap v k) t k 16 ≡ put_row d 64 (clipped_tap c p s lo hi k) t k 16
  unfolding run_tap clipped_tap
  run-clipped c p s lo hi e = row_same d 64 _ _ t k 16 (λ x a b. ap sample (known (clipped_at c p s lo hi) e x b))
