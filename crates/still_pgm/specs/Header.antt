-- The header of a binary PGM. Definitions only.
use Rattle.std.specs.Prelude.{ℕ, min, Bool, false, cond, ◌&&◌, List, [], ◌∷◌, eqb, get_or, drop, Option, Some, None, option_and_then}
use Rattle.still_pgm.specs.declared.header.Header.{Header}
use Rattle.still_text.specs.Text.{digit_count, decimal, most, is_blank, blanks}

-- the number that a text begins with, and what is left behind its digits
unfoldable pub digits_of : List ℕ → Option (ℕ × List ℕ)
digits_of s = cond (eqb (digit_count s) 0) None (Some (min most (decimal 0 s), drop (digit_count s) s))

-- a number behind one blank or more, and what is left behind it
unfoldable pub word_of : List ℕ → Option (ℕ × List ℕ)
word_of s = cond (eqb (blanks false s) 0) None (digits_of (drop (blanks false s) s))

-- P (80) and 5 (53)
unfoldable pub is_p5 : List ℕ → Bool
is_p5 s = eqb (get_or s 0 0) 80 && eqb (get_or s 1 0) 53

-- the header, where one blank follows its numbers, and the samples behind it
unfoldable pub before_samples : Header → List ℕ → Option (Header × List ℕ)
before_samples h [] = None
before_samples h (b ∷ samples) = cond (is_blank b) (Some (h, samples)) None

-- P5, width, height, maximum, one blank; the samples are behind it
unfoldable pub header_of : List ℕ → Option (Header × List ℕ)
header_of s =
    cond (is_p5 s)
    (option_and_then (λ w. option_and_then (λ h. option_and_then (λ m. before_samples (record { width = w.0; height = h.0; maximum = m.0 }) m.1) (word_of h.1)) (word_of w.1)) (word_of (drop 2 s)))
    None
