-- Digits, blanks and comments of a text. Definitions only.
use Rattle.std.specs.Prelude.{ℕ, suc, ◌+◌, ◌-◌, ◌*◌, min, Bool, cond, not, ◌&&◌, ◌||◌, List, [], ◌∷◌, length, leb, eqb, Option, None, Some}

-- 0 to 9 (48 to 57)
unfoldable pub is_digit : ℕ → Bool
is_digit b = leb 48 b && leb b 57

-- how many digits a text begins with
unfoldable pub digit_count : List ℕ → ℕ
digit_count [] = 0
digit_count (b ∷ s) = cond (is_digit b) (suc (digit_count s)) 0

-- the number n, and behind it the digits that a text begins with
unfoldable pub decimal : ℕ → List ℕ → ℕ
decimal n [] = n
decimal n (b ∷ s) = cond (is_digit b) (decimal (n * 10 + (b - 48)) s) n

-- numbers above it count as this one, which nothing accepts
abbrev pub most : ℕ
most = 4294967295

-- a space (32), or a tab, a line's end or another blank between them (9 to 13)
unfoldable pub is_blank : ℕ → Bool
is_blank b = eqb b 32 || (leb 9 b && leb b 13)

-- a byte stands between two numbers: in a comment any, else the mark # (35) of a comment or a blank
unfoldable pub passed : Bool → ℕ → Bool
passed comment b = comment || (eqb b 35 || is_blank b)

-- the byte after b is in a comment: one ends with its line (10 or 13)
unfoldable pub in_comment : Bool → ℕ → Bool
in_comment comment b = cond comment (not (eqb b 10 || eqb b 13)) (eqb b 35)

-- how many bytes of blanks and comments a text begins with
unfoldable pub blanks : Bool → List ℕ → ℕ
blanks comment [] = 0
blanks comment (b ∷ s) = cond (passed comment b) (suc (blanks (in_comment comment b) s)) 0

-- the number that a whole text is: one digit or more, and nothing else
unfoldable pub number_of : List ℕ → Option ℕ
number_of s = cond (eqb (digit_count s) 0) None (cond (eqb (digit_count s) (length s)) (Some (min most (decimal 0 s))) None)
