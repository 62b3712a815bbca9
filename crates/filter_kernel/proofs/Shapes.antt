-- The kernel's row, by which strengths are 0. Assumes nothing.
use mathlib.Core.Path.{◌≡◌}
use mathlib.Core.List.{List}
use Prim.Native.Nat.{ℕ, ◌+◌}
use borrow.Author.Tests.{eq-eqb, ne_eqb}
use lib.ListN.{get_or}
use Rattle.arith_sample.specs.Sample.{free_of}
use Rattle.arith_sample.specs.Upto.{upto, upto-ext}
use Rattle.filter_rows.specs.declared.Taps.{Taps}
use Rattle.filter_rows.specs.declared.Strength.{Strength}
use Rattle.filter_rows.specs.Sums.{pri_at, sec_at, filtered_at}
use Rattle.filter_kernel.specs.Kernel.{kernel_at}

module _ (w : List ℕ) (row : ℕ) (t : Taps) (f g : Strength) where
  pub neither-row : f.s ≡ 0 → g.s ≡ 0 → upto (λ (j : ℕ). get_or w (row + j) 0) 8 ≡ upto (λ (j : ℕ). kernel_at w (row + j) t f g) 8
  unfolding kernel_at
  neither-row e h = upto-ext _ _ 8 (λ j l. rw (eq-eqb f.s 0 e, eq-eqb g.s 0 h))

  pub sec-only : f.s ≡ 0 → (g.s ≡ 0 → ⊥) → upto (λ (j : ℕ). free_of (get_or w (row + j) 0) (sec_at w (row + j) t g)) 8 ≡ upto (λ (j : ℕ). kernel_at w (row + j) t f g) 8
  unfolding kernel_at
  sec-only e h = upto-ext _ _ 8 (λ j l. rw (eq-eqb f.s 0 e, ne_eqb g.s 0 h))

  pub pri-only : (f.s ≡ 0 → ⊥) → g.s ≡ 0 → upto (λ (j : ℕ). free_of (get_or w (row + j) 0) (pri_at w (row + j) t f)) 8 ≡ upto (λ (j : ℕ). kernel_at w (row + j) t f g) 8
  unfolding kernel_at
  pri-only e h = upto-ext _ _ 8 (λ j l. rw (ne_eqb f.s 0 e, eq-eqb g.s 0 h))

  pub both-row : (f.s ≡ 0 → ⊥) → (g.s ≡ 0 → ⊥) → upto (λ (j : ℕ). filtered_at w (row + j) t f g) 8 ≡ upto (λ (j : ℕ). kernel_at w (row + j) t f g) 8
  unfolding kernel_at
  both-row e h = upto-ext _ _ 8 (λ j l. rw (ne_eqb f.s 0 e, ne_eqb g.s 0 h))
