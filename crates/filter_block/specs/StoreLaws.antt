-- Laws of what is stored.
use Rattle.std.specs.Prelude.{◌≡◌, List, ℕ, ◌+◌, ◌-◌, ◌*◌, ◌≤◌, ◌<◌}
use Rattle.std.proofs.Common.{◌∙◌, arith}
use Rattle.cdef_spec.specs.declared.Block.{Block}
use Rattle.cdef_spec.specs.declared.FilterParams.{FilterParams}
use Rattle.cdef_spec.specs.Document01.{Plane, filtered}
use Rattle.cdef_spec.specs.LoopForm.{put_row, put_block}
use Rattle.cdef_spec.proofs.PlaneLaws.{row_same, block_same}
use Rattle.arith_sample.specs.Bounds.{Held}
use Rattle.arith_sample.specs.Upto.{upto, get_or-upto}
use Rattle.filter_rows.specs.declared.Taps.{Taps}
use Rattle.filter_rows.specs.declared.Strength.{Strength}
use Rattle.filter_window.specs.Window.{window_at}
use Rattle.filter_kernel.specs.Kernel.{kernel_at}
use Rattle.filter_kernel.specs.KernelLaws.{kernel-tap}
use Rattle.filter_block.specs.Store.{window_tap, block_tap}
use Rattle.filter_store.specs.Row.{row_tap}

-- row i of the kernel, stored at row y + i, is row y + i of the window's samples
pub stored_row : (d : List ℕ) (m : ℕ) (w : List ℕ) (t : Taps) (f g : Strength) (y x i n : ℕ) → n ≤ 8 → (r : List ℕ) → r ≡ upto (λ (j : ℕ). kernel_at w ((i + 2) * 12 + 2 + j) t f g) 8
    → put_row d m (row_tap r x) (y + i) x n ≡ put_row d m (window_tap w t f g y x) (y + i) x n
unfolding row_tap window_tap
stored_row d m w t f g y x i n hn r e = row_same d m _ _ (y + i) x n (λ c l h.
    let k : y + i - y ≡ i = omega arith in
    rw (k, e, get_or-upto (λ (j : ℕ). kernel_at w ((i + 2) * 12 + 2 + j) t f g) 8 (c - x) 0 (omega arith)))

-- the whole block, from row y0 of the plane on, is the plane's filtered samples
pub stored-block : (d : List ℕ) (m : ℕ) (p : Plane) (b : Block) (q : FilterParams) (y0 cols rows : ℕ) → y0 ≤ b.y → b.height ≤ 8 → b.width ≤ 8 → cols ≤ b.width → rows ≤ b.height → q.dir < 8 → Held (upto (window_at p b) 144)
    → put_block d m (block_tap (upto (window_at p b) 144) q (b.y - y0) b.x) (b.y - y0) b.x cols rows ≡ put_block d m (λ r c. filtered p q (y0 + r) c) (b.y - y0) b.x cols rows
unfolding block_tap window_tap
stored-block d m p b q y0 cols rows hy hh hw hc hr hd held = block_same d m _ _ (b.y - y0) b.x cols rows (λ r c lo hi left right.
    let i : ℕ = r - (b.y - y0) in
    let j : ℕ = c - b.x in
    let e : y0 + r ≡ b.y + i = omega arith in
    let f : c ≡ b.x + j = omega arith in
    kernel-tap p b q i j hh hw (omega arith) (omega arith) hd held ∙ rw (e, ← f))
