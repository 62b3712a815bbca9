-- How many numbers a line has. Definitions only.
use Rattle.std.specs.Prelude.{ℕ, List, [], ◌∷◌, ◌+◌, cond, eqb}

-- 1 where a number begins, which is before any byte, a blank too; 0 at the end of the line
unfoldable pub begins : List ℕ → ℕ
begins [] = 0
begins (byte ∷ bytes) = 1

-- how many begin behind the blanks of a line; a blank is byte 32
unfoldable pub numbers_behind : List ℕ → ℕ
numbers_behind [] = 0
numbers_behind (byte ∷ bytes) = cond (eqb byte 32) (begins bytes + numbers_behind bytes) (numbers_behind bytes)

-- test_replay/data/README.md: numbers with one blank between each and the next; between two blanks, or before the first, stands an empty one
unfoldable pub numbers_in : List ℕ → ℕ
numbers_in line = begins line + numbers_behind line
