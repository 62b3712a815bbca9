-- `arith_root::settled` meets its contract.
use mathlib.Core.Path.{◌≡◌}
use Prim.Native.Nat.{ℕ, ◌-◌, ◌*◌, ◌<◌, ◌≤◌}
use borrow.Author.Tests.{le-leb, lt-leb}
use lib.Dec.{leb}
use Rattle.arith_root.specs.RootWords.{is_root}
use Rattle.arith_root.proofs.settled.Goals as goal

by-rest : (h g : ℕ) → g * g ≤ h → leb (h - g * g) (2 * g) ≡ is_root h g
unfolding is_root
by-rest h g l = rw (le-leb (g * g) h l)

too-high : (h g : ℕ) → h < g * g → leb (g * g) h ≡ is_root h g
unfolding is_root
too-high h g l = rw (lt-leb (g * g) h l)

pub returns-then-g-h : goal.returns-then-g-h
returns-then-g-h c = by-rest _ _ c.if-g-h.true

pub returns-else-g-h : goal.returns-else-g-h
returns-else-g-h c = too-high _ _ c.if-g-h.false
