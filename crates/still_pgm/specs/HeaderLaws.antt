-- The parts of a header put together.
use lib.Pointwise.{pointwise}
use Rattle.std.specs.Prelude.{◌≡◌, refl, Bool, true, false, ◌&&◌, eqb, take, List, [], ◌∷◌, ℕ, ◌<◌, min, length, drop, Some, None}
use Rattle.std.proofs.Common.{arith, length-drop, ne_eqb, eq-eqb}
use Rattle.still_pgm.specs.declared.header.Header.{Header}
use Rattle.still_text.specs.Text.{digit_count, decimal, most, is_blank, blanks}
use Rattle.still_text.specs.TextLaws.{blanks-within}
use Rattle.still_pgm.specs.Header.{digits_of, word_of, is_p5, before_samples, header_of}

-- ---- a number behind blanks

module _ (s : List ℕ) where
  pub word_at_once : length (drop (blanks false s) s) ≡ length s → None ≡ word_of s
  unfolding word_of
  word_at_once h =
      let none : blanks false s ≡ 0 = omega (arith, length-drop (blanks false s) s, blanks-within false s) in
      rw (eq-eqb (blanks false s) 0 none) refl

  module _ (some : length (drop (blanks false s) s) ≡ length s → ⊥) where
    behind : word_of s ≡ digits_of (drop (blanks false s) s)
    unfolding word_of
    behind = let one : blanks false s ≡ 0 → ⊥ = (λ e. some (rw e refl)) in rw (ne_eqb (blanks false s) 0 one) refl

    pub word_none : digit_count (drop (blanks false s) s) ≡ 0 → None ≡ word_of s
    unfolding digits_of
    word_none h = rw (behind, eq-eqb (digit_count (drop (blanks false s) s)) 0 h) refl

    pub word_some : (value : ℕ) (rest : List ℕ) → 0 < digit_count (drop (blanks false s) s) → value ≡ min most (decimal 0 (drop (blanks false s) s)) → rest ≡ drop (digit_count (drop (blanks false s) s)) (drop (blanks false s) s)
        → Some (value, rest) ≡ word_of s
    unfolding digits_of
    word_some value rest h v r =
        let one : digit_count (drop (blanks false s) s) ≡ 0 → ⊥ = (λ e. omega arith) in
        rw (behind, ne_eqb (digit_count (drop (blanks false s) s)) 0 one, v, r) refl

-- ---- the header

-- P5, as a prefix
pub p5_is : (s : List ℕ) → pointwise eqb (take 2 s) (80 ∷ 53 ∷ []) ≡ is_p5 s
unfolding is_p5
p5_is [] = refl
p5_is (a ∷ []) = refl
p5_is (a ∷ b ∷ s) = go (eqb b 53)
  where
    go : (t : Bool) → eqb a 80 && (t && true) ≡ eqb a 80 && t
    go true = refl
    go false = refl

ended : (h : Header) (s : List ℕ) → length s ≡ 0 → before_samples h s ≡ None
unfolding before_samples
ended h [] e = refl
ended h (x ∷ s) e = absurd (omega arith)

module _ (s : List ℕ) where
  pub header_other : is_p5 s ≡ false → None ≡ header_of s
  unfolding header_of
  header_other p = rw p refl

  module _ (p : is_p5 s ≡ true) where
    pub header_no_width : None ≡ word_of (drop 2 s) → None ≡ header_of s
    unfolding header_of
    header_no_width e = rw (p, ← e) refl

    module _ (w : ℕ) (a : List ℕ) (ew : Some (w, a) ≡ word_of (drop 2 s)) where
      pub header_no_height : None ≡ word_of a → None ≡ header_of s
      unfolding header_of
      header_no_height e = rw (p, ← ew, ← e) refl

      module _ (h : ℕ) (b : List ℕ) (eh : Some (h, b) ≡ word_of a) where
        pub header_no_maximum : None ≡ word_of b → None ≡ header_of s
        unfolding header_of
        header_no_maximum e = rw (p, ← ew, ← eh, ← e) refl

        module _ (m : ℕ) (c : List ℕ) (em : Some (m, c) ≡ word_of b) where
          numbers : header_of s ≡ before_samples (record { width = w; height = h; maximum = m }) c
          unfolding header_of
          numbers = rw (p, ← ew, ← eh, ← em) refl

          pub header_ends : length c ≡ 0 → None ≡ header_of s
          header_ends e = rw (numbers, ended _ c e) refl

          pub header_no_blank : (x : ℕ) (samples : List ℕ) → c ≡ x ∷ samples → is_blank x ≡ false → None ≡ header_of s
          unfolding before_samples
          header_no_blank x samples e f = rw (numbers, e, f) refl

          pub header_is : (x : ℕ) (samples : List ℕ) → c ≡ x ∷ samples → is_blank x ≡ true → Some (record { width = w; height = h; maximum = m }, samples) ≡ header_of s
          unfolding before_samples
          header_is x samples e f = rw (numbers, e, f) refl
