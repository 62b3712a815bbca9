-- `filter_block::filter_window` meets its contract.
use mathlib.Core.Path.{◌≡◌, ◌∙◌}
use mathlib.Core.List.{List}
use Prim.Native.Nat.{ℕ, max}
use native.Mathlib.Omega.{arith}
use Rattle.cdef_spec.specs.declared.FilterParams.{FilterParams}
use Rattle.cdef_spec.specs.LoopForm.{put_block}
use Rattle.filter_rows.specs.declared.Taps.{Taps}
use Rattle.filter_rows.specs.declared.Strength.{Strength}
use Rattle.filter_kernel.specs.Kernel.{taps_of, pri_of, sec_of}
use Rattle.filter_kernel.specs.PlaceLaws.{taps-near}
use Rattle.filter_kernel.specs.ShapeLaws.{pri-in, sec-in}
use Rattle.filter_block.specs.Store.{window_tap, block_tap}
use Rattle.filter_block.proofs.filter_window.Goals as goal

glue : (l last : List ℕ) (m : ℕ) (w : List ℕ) (q : FilterParams) (t : Taps) (f g : Strength) (d y x cols rows n k : ℕ) → d ≡ max 1 q.damping.0 → t ≡ taps_of q.dir → f ≡ pri_of q.pri d q.depth → g ≡ sec_of q.sec d → cols ≡ n → rows ≡ k → last ≡ put_block l m (window_tap w t f g y x) y x cols rows → last ≡ put_block l m (block_tap w q y x) y x n k
unfolding block_tap
glue l last m w q t f g d y x cols rows n k a b c e h i z = z ∙ rw (b, c, e, a, h, i)

pub filter_rows-requires : goal.filter_rows-requires
filter_rows-requires c =
    let q = c.requires.begins in
    let u = c.requires.held.1 in
    let e = c.min-cols.ensures in
    let f = c.min-rows.ensures in record {
      rows_fit = (omega (arith, e, q.0), q.2, omega (arith, f, q.1, q.3), omega (arith, f, q.5), omega (arith, e, q.4), rw f c.requires.rows_fit.1);
      held = (c.requires.held.0, rw c.taps-t.ensures (taps-near c.args.q.dir u.dir), rw c.primary-f.ensures (pri-in c.args.q.pri c.from_one-d.result c.args.q.depth u.pri), rw c.secondary-g.ensures (sec-in c.args.q.sec c.from_one-d.result u.sec));
    }

pub returns : goal.returns
returns c = glue _ _ _ _ _ _ _ _ _ _ _ _ _ _ _ c.from_one-d.ensures c.taps-t.ensures c.primary-f.ensures c.secondary-g.ensures c.min-cols.ensures c.min-rows.ensures c.filter_rows.ensures
