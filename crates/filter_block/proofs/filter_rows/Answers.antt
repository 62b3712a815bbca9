-- `filter_block::filter_rows` meets its contract.
use mathlib.Core.Path.{◌≡◌, refl, sym, ◌∙◌}
use mathlib.Core.List.{List}
use Prim.Native.Nat.{ℕ, ◌+◌, ◌*◌, ◌≤◌, ◌<◌}
use native.Mathlib.Nat.{mul-le-mul_right}
use native.Mathlib.Omega.{arith}
use lib.ListN.{length}
use Rattle.arith_sample.specs.Upto.{upto}
use Rattle.filter_rows.specs.declared.Taps.{Taps}
use Rattle.filter_rows.specs.declared.Strength.{Strength}
use Rattle.filter_kernel.specs.Kernel.{kernel_at}
use Rattle.cdef_spec.specs.LoopForm.{put_row, put_block}
use Rattle.cdef_spec.proofs.PlaneLaws.{block_none, block_more}
use Rattle.filter_block.specs.Store.{window_tap}
use Rattle.filter_store.specs.Row.{row_tap}
use Rattle.filter_block.specs.StoreLaws.{stored_row}
use Rattle.filter_block.proofs.filter_rows.Goals as goal
use Rattle.filter_block.proofs.filter_rows.Goals.{Start}

-- an iteration's row
turn : (l d last : List ℕ) (m : ℕ) (w : List ℕ) (t : Taps) (f g : Strength) (y x i n : ℕ) (r : List ℕ) → n ≤ 8 → r ≡ upto (λ (j : ℕ). kernel_at w ((i + 2) * 12 + 2 + j) t f g) 8 → d ≡ put_block l m (window_tap w t f g y x) y x n i → last ≡ put_row d m (row_tap r x) (y + i) x n → last ≡ put_block l m (window_tap w t f g y x) y x n (i + 1)
turn l d last m w t f g y x i n r hn k e h = h ∙ stored_row d m w t f g y x i n hn r k ∙ rw (block_more l m (window_tap w t f g y x) y x n i, e)

-- it lies in the destination
inside : (s : Start) (i : ℕ) → i < s.args.rows → let a = s.args in (a.y + i) * a.w + (a.x + a.cols) ≤ length a.dst.now
inside s i h =
    let a = s.args in
    let q = s.requires.rows_fit in
    let b : a.y + i + 1 ≤ a.y + a.rows = omega arith in
    omega (arith, mul-le-mul_right a.w b, q.0, q.5)

pub loop-i-init : goal.loop-i-init
loop-i-init c = (sym (block_none _ _ _ _ _ _), refl, omega arith)

pub kernel_row-row-requires : goal.kernel_row-row-requires
kernel_row-row-requires c = let s = c.before.before.before in (omega arith, omega (arith, s.requires.rows_fit.3), s.requires.held.0, s.requires.held.1, s.requires.held.2, s.requires.held.3)

pub overflow_add-y : goal.overflow_add-y
overflow_add-y c = omega (arith, c.before.before.before.before.before.requires.rows_fit.2)

pub store_row-requires : goal.store_row-requires
store_row-requires c = let s = c.before.before.before.before.before in (omega (arith, inside s c.before.before.before.loop-i.i (omega arith), c.before.before.before.loop-i.invariant.1), s.requires.rows_fit.4)

pub loop-i-preserved : goal.loop-i-preserved
loop-i-preserved c = let p = c.before.before.before.before.before.before in let s = c.before.before.before.before.before.before.before.before in (turn _ _ _ _ _ _ _ _ _ _ _ _ _ s.requires.rows_fit.4 c.before.before.before.before.kernel_row-row.ensures p.loop-i.invariant.0 c.before.before.store_row.ensures, c.before.before.store_row.auto.dst ∙ p.loop-i.invariant.1, omega arith)

pub shape_of-dst : goal.shape_of-dst
shape_of-dst c = c.before.loop-i.invariant.1

pub returns : goal.returns
returns c = let full : c.before.loop-i.i ≡ c.before.before.before.args.rows = omega arith in c.before.loop-i.invariant.0 ∙ rw full
