-- Laws of digits, blanks and comments: one step of each count, and numbers that are too large.
use Rattle.std.specs.Prelude.{◌≡◌, refl, Bool, true, false, cond, ◌&&◌, List, [], ◌∷◌, ℕ, suc, ◌+◌, ◌-◌, ◌*◌, ◌≤◌, ◌<◌, min, length, drop, Some, None}
use Rattle.std.specs.Char.{is_ascii_digit}
use Rattle.std.proofs.Math.Decide.{dec_le}
use Rattle.std.proofs.Common.{arith, leb-true, ne_eqb, eq-eqb, length-drop}
use Rattle.still_text.specs.Text.{is_digit, digit_count, decimal, most, passed, in_comment, blanks, number_of}

-- ---- blanks of a text, by its first byte

pub blanks_end : (comment : Bool) (s : List ℕ) → length s ≡ 0 → drop (blanks comment s) s ≡ s
unfolding blanks
blanks_end comment [] h = refl
blanks_end comment (b ∷ more) h = absurd (omega arith)

module _ (comment : Bool) (s : List ℕ) (b : ℕ) (more : List ℕ) (e : s ≡ b ∷ more) where
  pub blanks_stop : passed comment b ≡ false → drop (blanks comment s) s ≡ s
  unfolding blanks
  blanks_stop f = rw (e, f) refl

  pub blanks_more : passed comment b ≡ true → drop (blanks comment s) s ≡ drop (blanks (in_comment comment b) more) more
  unfolding blanks
  blanks_more f = rw (e, f) refl

-- ---- digits of a text, by its first byte

pub digits_end : (n : ℕ) (s : List ℕ) → length s ≡ 0 → (decimal n s ≡ n) × (digit_count s ≡ 0)
unfolding decimal digit_count
digits_end n [] h = (refl, refl)
digits_end n (b ∷ more) h = absurd (omega arith)

module _ (s : List ℕ) (b : ℕ) (more : List ℕ) (e : s ≡ b ∷ more) where
  pub digits_stop : (n : ℕ) → is_digit b ≡ false → (decimal n s ≡ n) × (digit_count s ≡ 0)
  unfolding decimal digit_count
  digits_stop n f = (rw (e, f) refl, rw (e, f) refl)

  pub digits_more : (n : ℕ) → is_digit b ≡ true
      → (decimal n s ≡ decimal (n * 10 + (b - 48)) more) × (digit_count s ≡ suc (digit_count more)) × (drop (digit_count s) s ≡ drop (digit_count more) more)
  unfolding decimal digit_count
  digits_more n f = (rw (e, f) refl, rw (e, f) refl, rw (e, f) refl)

-- both hold
pub and_both : (a b : Bool) → a && b ≡ true → (a ≡ true) × (b ≡ true)
and_both true b e = (refl, e)
and_both false b e = (e, go b e)
  where
    go : (b : Bool) → false ≡ true → b ≡ true
    go true e = refl
    go false e = e

-- ---- a digit and a number that is too large

-- a digit, as the library tests it
pub digit_yes : (b : ℕ) → is_ascii_digit b ≡ true → is_digit b ≡ true
unfolding is_digit
digit_yes b e = e

pub digit_no : (b : ℕ) → is_ascii_digit b ≡ false → is_digit b ≡ false
unfolding is_digit
digit_no b e = e

pub digit_range : (b : ℕ) → is_digit b ≡ true → (48 ≤ b) × (b ≤ 57)
unfolding is_digit
digit_range b e = let p = and_both _ _ e in (leb-true 48 b p.0, leb-true b 57 p.1)

decimal-ge : (n : ℕ) (s : List ℕ) → n ≤ decimal n s
unfolding decimal
decimal-ge n [] = omega arith
decimal-ge n (b ∷ s) = go (is_digit b) (decimal-ge (n * 10 + (b - 48)) s)
  where
    go : (t : Bool) → n * 10 + (b - 48) ≤ decimal (n * 10 + (b - 48)) s → n ≤ cond t (decimal (n * 10 + (b - 48)) s) n
    go true h = omega arith
    go false h = omega arith

-- limited to `most` on the way or at the end
pub capped_once : (n : ℕ) (s : List ℕ) → min most (decimal (min most n) s) ≡ min most (decimal n s)
capped_once n s = go (dec_le n most)
  where
    go : Dec (n ≤ most) → min most (decimal (min most n) s) ≡ min most (decimal n s)
    go (yes h) = let e : min most n ≡ n = omega arith in rw e
    go (no f) = let e : min most n ≡ most = omega arith in rw e (omega (arith, decimal-ge most s, decimal-ge n s))

-- ---- where the counts end

pub blanks-within : (comment : Bool) (s : List ℕ) → blanks comment s ≤ length s
unfolding blanks
blanks-within comment [] = omega arith
blanks-within comment (b ∷ s) = go (passed comment b) (blanks-within (in_comment comment b) s)
  where
    go : (t : Bool) → blanks (in_comment comment b) s ≤ length s → cond t (suc (blanks (in_comment comment b) s)) 0 ≤ suc (length s)
    go true h = omega arith
    go false h = omega arith

pub digits-within : (s : List ℕ) → digit_count s ≤ length s
unfolding digit_count
digits-within [] = omega arith
digits-within (b ∷ s) = go (is_digit b) (digits-within s)
  where
    go : (t : Bool) → digit_count s ≤ length s → cond t (suc (digit_count s)) 0 ≤ suc (length s)
    go true h = omega arith
    go false h = omega arith

-- ---- a whole text as a number

module _ (s : List ℕ) where
  pub number_none : digit_count s ≡ 0 → None ≡ number_of s
  unfolding number_of
  number_none h = rw (eq-eqb (digit_count s) 0 h) refl

  pub number_longer : 0 < digit_count s → 0 < length (drop (digit_count s) s) → None ≡ number_of s
  unfolding number_of
  number_longer h k =
      let some : digit_count s ≡ 0 → ⊥ = (λ e. omega arith) in
      let longer : digit_count s ≡ length s → ⊥ = (λ e. omega (arith, length-drop (digit_count s) s)) in
      rw (ne_eqb (digit_count s) 0 some, ne_eqb (digit_count s) (length s) longer) refl

  pub number_whole : 0 < digit_count s → length (drop (digit_count s) s) ≡ 0 → Some (min most (decimal 0 s)) ≡ number_of s
  unfolding number_of
  number_whole h k =
      let some : digit_count s ≡ 0 → ⊥ = (λ e. omega arith) in
      let whole : digit_count s ≡ length s = omega (arith, length-drop (digit_count s) s, digits-within s) in
      rw (ne_eqb (digit_count s) 0 some, eq-eqb (digit_count s) (length s) whole) refl
