-- `plane_inside::inside` meets its contract.
use mathlib.Core.Path.{◌≡◌}
use mathlib.Core.Bool.{false}
use Prim.Native.Nat.{ℕ, ◌+◌, ◌≤◌, ◌<◌}
use native.Mathlib.Omega.{arith}
use borrow.Author.Tests.{le-leb, lt-leb}
use lib.Dec.{leb}
use Rattle.plane_inside.specs.Inner.{inner_block}
use Rattle.plane_inside.proofs.inside.Goals as goal

module _ (w h x y bw bh : ℕ) where
  no-left : x < 2 → false ≡ inner_block w h x y bw bh
  unfolding inner_block
  no-left e = rw (lt-leb 2 x e)

  no_top : 2 ≤ x → y < 2 → false ≡ inner_block w h x y bw bh
  unfolding inner_block
  no_top a e = rw (le-leb 2 x a, lt-leb 2 y e)

  no-right : 2 ≤ x → 2 ≤ y → w < x + bw + 2 → false ≡ inner_block w h x y bw bh
  unfolding inner_block
  no-right a b e = rw (le-leb 2 x a, le-leb 2 y b, lt-leb (x + bw + 2) w e)

  by-bottom : 2 ≤ x → 2 ≤ y → x + bw + 2 ≤ w → leb (y + bh + 2) h ≡ inner_block w h x y bw bh
  unfolding inner_block
  by-bottom a b e = rw (le-leb 2 x a, le-leb 2 y b, le-leb (x + bw + 2) w e)

pub returns-then-x-lt2 : goal.returns-then-x-lt2
returns-then-x-lt2 c = no-left _ _ _ _ _ _ c.if-x-lt2.true

pub returns-then-y-lt2 : goal.returns-then-y-lt2
returns-then-y-lt2 c = no_top _ _ _ _ _ _ (omega arith) c.if-y-lt2.true

pub returns-then-w-x : goal.returns-then-w-x
returns-then-w-x c = no-right _ _ _ _ _ _ (omega arith) (omega arith) c.if-w-x.true

pub returns : goal.returns
returns c = by-bottom _ _ _ _ _ _ (omega arith) (omega arith) (omega arith)
