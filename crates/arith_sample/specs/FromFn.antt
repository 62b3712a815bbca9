-- An array that is computed index by index.
use Rattle.std.specs.Prelude.{◌≡◌, List, [], ◌∷◌, length, slice_index_or}
use Rattle.std.specs.Array.{IsFromFnResult, IsFromFnResultFrom}
use Rattle.std.proofs.Common.{refl, sym, ◌∙◌, ext_get_or, arith}
use Rattle.arith_sample.specs.Upto.{upto, length-upto, get_or-upto}
use Prim.Native.Nat.{ℕ, zero, suc, ◌+◌, ◌<◌}
use denote.Param.Members.{Mut, Called}

-- a closure in the state f that gives h i at each index i, and keeps that state
module _ {F B : Type 0} {g : Mut F (ℕ × Unit {0}) B} (h : ℕ → B) (f : F) (gives : (i : ℕ) (y : B) (q : F) → Called g f (i, tt) y q → (y ≡ h i) × (q ≡ f)) where
  each-from : (ys : List B) (i n k : ℕ) (d : B) → IsFromFnResultFrom g f ys i n → k < n → slice_index_or ys (i + k) d ≡ h (i + k)
  each-from ys i zero k d r l = absurd (omega arith)
  each-from ys i (suc n) zero d r l =
      let e : i + 0 ≡ i = omega arith in
      rw e (r.2.1 d ∙ (gives i r.1 r.0 r.3).0)
  each-from ys i (suc n) (suc k) d r l =
      let e : i + suc k ≡ i + 1 + k = omega arith in
      let s = (gives i r.1 r.0 r.3).1 in
      rw e (each-from ys (i + 1) n k d (rw s at r.4) (omega arith))

  each-at : (ys : List B) (n : ℕ) (d : B) → IsFromFnResult g f ys n → (k : ℕ) → k < n → slice_index_or ys k d ≡ h k
  each-at ys n d r k l = let e : 0 + k ≡ k = omega arith in rw e at (each-from ys 0 n k d r.each l)

  none : (ys : List B) → length ys ≡ 0 → ys ≡ upto h 0
  unfolding upto
  none [] e = refl
  none (y ∷ ys) e = absurd (omega arith)

  pub from-each : (ys : List B) (n : ℕ) → IsFromFnResult g f ys n → ys ≡ upto h n
  from-each ys zero r = none ys r.long
  from-each [] (suc n) r = absurd (omega (arith, r.long))
  from-each (y ∷ ys) (suc n) r =
      ext_get_or y (y ∷ ys) (upto h (suc n)) (r.long ∙ sym (length-upto h (suc n)))
      (λ k l. let m : k < suc n = omega (arith, r.long) in each-at (y ∷ ys) (suc n) y r k m ∙ sym (get_or-upto h (suc n) k y m))
