-- Laws of totals: signs, and twelve additions.
use Rattle.std.specs.Prelude.{◌≡◌, refl, List, [], ◌∷◌, ℕ, ◌+◌, ◌*◌, ◌^◌, ◌≤◌, ◌<◌, ℤ, pos, ◌+ℤ◌, get_or, set, length}
use Rattle.std.proofs.Common.{sym, ap, ◌∙◌, arith, to_z, of_z, SFits}
use Rattle.std.specs.Int.{w64}
use Rattle.std.proofs.lemmas.Int.{to_z-of_z, to_z_pos}
use Rattle.cdef_spec.specs.LoopForm.{signed, add_turns}
use Rattle.cdef_spec.specs.TotalLaws.{length-signed, get_or-signed, add-signed, length-turns}
use Rattle.arith_totals.specs.FoldLaws.{turns-none, turns_more}
use Rattle.arith_totals.specs.TotalBounds.{turns-low}
use Rattle.arith_totals.specs.Turns.{plain_of, Low}

-- ---- signs

pub plain-signed : (t : List ℕ) → plain_of (signed t) ≡ t
unfolding plain_of signed
plain-signed [] = refl
plain-signed (n ∷ ns) = ap (λ (l : List ℕ). n ∷ l) (plain-signed ns)

pub low_signed : (t : List ℕ) → ((i : ℕ) → get_or t i 0 ≤ 64 * 2 ^ 53) → Low (signed t)
low_signed t h = record { is = rw (plain-signed t); each = λ i. rw (plain-signed t) (h i) }

-- ---- additions

-- a sum of two small numbers, as the code computes it
pub sum_fits : (z : ℤ) (m n : ℕ) → z ≡ pos m → m ≤ 65 * 2 ^ 53 → n < 2 ^ 53 → SFits w64 (to_z w64 (of_z w64 z) +ℤ to_z w64 n)
sum_fits z m n e h k = rw (e, to_z-of_z w64 (pos m) (record { sfits = omega arith }), to_z_pos w64 n (omega arith)) (record { sfits = omega arith })

pub sum_is : (z : ℤ) (m n : ℕ) → z ≡ pos m → m ≤ 65 * 2 ^ 53 → n < 2 ^ 53 → to_z w64 (of_z w64 (to_z w64 (of_z w64 z) +ℤ to_z w64 n)) ≡ z +ℤ pos n
sum_is z m n e h k = to_z-of_z w64 _ (sum_fits z m n e h k) ∙ rw (e, to_z-of_z w64 (pos m) (record { sfits = omega arith }), to_z_pos w64 n (omega arith))

module _ (l : List ℤ) (w : Low l) (base : ℕ) (d : ℕ → ℕ) where
  pub turns-start : l ≡ signed (add_turns (plain_of l) base d 0)
  turns-start = rw (turns-none (plain_of l) base d) w.is

  module _ (t : ℕ) (m : List ℤ) (e : m ≡ signed (add_turns (plain_of l) base d t)) where
    pub turns-length : length m ≡ length l
    turns-length = ap length e ∙ length-signed _ ∙ length-turns (plain_of l) base d t ∙ sym (ap length w.is ∙ length-signed (plain_of l))

    -- a total before its addition
    pub turn_at : (i : ℕ) → get_or m i (pos 0) ≡ pos (get_or (add_turns (plain_of l) base d t) i 0)
    turn_at i = rw e (get_or-signed _ i)

    pub turn_low : ((k : ℕ) → k < t → d k < 2 ^ 53) → (i : ℕ) → get_or (add_turns (plain_of l) base d t) i 0 ≤ 65 * 2 ^ 53
    turn_low h i = omega (arith, turns-low (plain_of l) base d t (2 ^ 53) (64 * 2 ^ 53) (λ k b. omega (arith, h k b)) w.each i)

    pub turn_more : set m (base + t) (get_or m (base + t) (pos 0) +ℤ pos (d t)) ≡ signed (add_turns (plain_of l) base d (t + 1))
    turn_more = rw (e, turns_more (plain_of l) base d t) (add-signed (add_turns (plain_of l) base d t) (base + t) (d t))
