-- `filter_block::cdef_filter_block` meets its contract.
use mathlib.Core.Path.{◌≡◌, ◌∙◌}
use mathlib.Core.List.{List}
use Prim.Native.Nat.{ℕ, ◌+◌, ◌-◌, ◌≤◌, ◌<◌, min}
use native.Mathlib.Omega.{arith}
use Rattle.cdef_spec.specs.declared.Block.{Block}
use Rattle.cdef_spec.specs.declared.FilterParams.{FilterParams}
use Rattle.cdef_spec.specs.Document01.{Plane, filtered}
use Rattle.cdef_spec.specs.LoopForm.{put_block}
use Rattle.arith_sample.specs.Bounds.{Held}
use Rattle.arith_sample.specs.Upto.{upto}
use Rattle.cdef_spec.specs.Lent.{plane_in_full}
use Rattle.filter_window.specs.Window.{window_at}
use Rattle.filter_block.specs.Store.{block_tap}
use Rattle.filter_block.specs.StoreLaws.{stored-block}
use Rattle.filter_block.proofs.cdef_filter_block.Goals as goal

glue : (l last : List ℕ) (m : ℕ) (p : Plane) (b : Block) (q : FilterParams) (w : List ℕ) (y0 n k : ℕ) → w ≡ upto (window_at p b) 144 → y0 ≤ b.y → b.height ≤ 8 → b.width ≤ 8 → q.dir < 8 → Held (upto (window_at p b) 144) → last ≡ put_block l m (block_tap w q (b.y - y0) b.x) (b.y - y0) b.x (min b.width n) (min b.height k) → last ≡ put_block l m (λ r c. filtered p q (y0 + r) c) (b.y - y0) b.x (min b.width n) (min b.height k)
glue l last m p b q w y0 n k e hy hh hw hd held z = z ∙ rw e (stored-block l m p b q y0 (min b.width n) (min b.height k) hy hh hw (omega arith) (omega arith) hd held)

pub filter_window-requires : goal.filter_window-requires
filter_window-requires c =
    let i = c.requires.begins.0 in
    let p = c.args.src.now in record {
      begins = (i.x-in, i.y-in, p.sides.0, p.sides.1, i.bw, i.bh);
      rows_fit = c.requires.rows_fit;
      held = (rw c.window-win.ensures c.requires.begins.1, c.requires.begins.2);
    }

pub returns : goal.returns
returns c = let i = c.requires.begins.0 in glue _ _ _ (plane_in_full c.args.src.now) _ _ _ _ _ _ c.window-win.ensures c.requires.rows_fit.0 i.bh i.bw c.requires.begins.2.dir c.requires.begins.1 c.filter_window.ensures
