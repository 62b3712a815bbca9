-- Line sums in the code's form. Definitions only.
use Rattle.std.specs.Prelude.{ℕ, List, get_or, ℤ, pos}

-- entry n of a list of line sums
unfoldable pub entry : List ℤ → ℕ → ℤ
entry l n = get_or l n (pos 0)
