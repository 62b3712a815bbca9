-- A list read in four streams, a quarter of it each. Definitions only.
use Rattle.std.specs.Prelude.{Bool, ◌&&◌, List, ℕ, ◌+◌, ◌*◌, ◌^◌, ltb, get_or}

-- sample k of each quarter is below 2^d; a quarter is n samples long
unfoldable pub in_four : ℕ → List ℕ → ℕ → ℕ → Bool
in_four d l n k =
    ((ltb (get_or l k 0) (2 ^ d) && ltb (get_or l (n + k) 0) (2 ^ d)) && ltb (get_or l (2 * n + k) 0) (2 ^ d))
    && ltb (get_or l (3 * n + k) 0) (2 ^ d)
