-- The frame loops' folds, iteration by iteration: none, one more; and folds over distances that agree.
use Rattle.std.specs.Prelude.{◌≡◌, Bool, List}
use Rattle.std.proofs.Math.Path.{refl}
use Rattle.std.proofs.Math.Bool.{true, false, cond}
use Prim.Native.Nat.{ℕ, zero, suc, ◌+◌, ◌*◌, ◌≤◌, ◌<◌}
use Rattle.std.proofs.Common.{add-one, arith}
use Rattle.cdef_spec.specs.declared.Visible.{Visible}
use Rattle.cdef_spec.specs.Standard.{Tap}
use Rattle.cdef_spec.specs.Picture.{Picture, block_rows, block_cols, block_width, block_height, plane_width, unit_at, counted}
use Rattle.cdef_spec.specs.LoopForm.{add_at, add_turns, measure_row, measure_rows, try_row, try_rows, put_block, apply_row, apply_rows}

-- ---- iterations

pub turns-none : (t : List ℕ) (base : ℕ) (d : ℕ → ℕ) → add_turns t base d 0 ≡ t
unfolding add_turns
turns-none t base d = refl

pub turns_more : (t : List ℕ) (base : ℕ) (d : ℕ → ℕ) (n : ℕ) → add_turns t base d (n + 1) ≡ add_at (add_turns t base d n) (base + n) (d n)
unfolding add_turns
turns_more t base d n = rw (add-one n)

pub turns_same : (t : List ℕ) (base : ℕ) (d e : ℕ → ℕ) (n : ℕ) → ((k : ℕ) → k < n → d k ≡ e k) → add_turns t base d n ≡ add_turns t base e n
unfolding add_turns
turns_same t base d e zero h = refl
turns_same t base d e (suc n) h = rw (turns_same t base d e n (λ k b. h k (omega arith)), h n (omega arith))

-- ---- measuring

module _ (q : Picture) (v : Visible) (dist : ℕ → ℕ → ℕ) where
  pub measure-row-none : (by : ℕ) (t : List ℕ) → measure_row q v dist by t 0 ≡ t
  unfolding measure_row
  measure-row-none by t = refl

  -- a counted block adds its distance, another nothing
  pub measure-row-more : (by : ℕ) (t : List ℕ) (n : ℕ) → counted q v by n ≡ true → measure_row q v dist by t (n + 1) ≡ add_at (measure_row q v dist by t n) (unit_at q by n) (dist by n)
  unfolding measure_row
  measure-row-more by t n e = rw (add-one n, e)

  pub measure-row-pass : (by : ℕ) (t : List ℕ) (n : ℕ) → counted q v by n ≡ false → measure_row q v dist by t (n + 1) ≡ measure_row q v dist by t n
  unfolding measure_row
  measure-row-pass by t n e = rw (add-one n, e)

  pub measure-rows-none : (t : List ℕ) → measure_rows q v dist t 0 ≡ t
  unfolding measure_rows
  measure-rows-none t = refl

  pub measure-rows-more : (t : List ℕ) (m : ℕ) → measure_rows q v dist t (m + 1) ≡ measure_row q v dist m (measure_rows q v dist t m) (block_cols q)
  unfolding measure_rows
  measure-rows-more t m = rw (add-one m)

-- ---- trying

module _ (q : Picture) (v : Visible) (dist : ℕ → ℕ → ℕ → ℕ) where
  pub try-row-none : (by : ℕ) (t : List ℕ) → try_row q v dist by t 0 ≡ t
  unfolding try_row
  try-row-none by t = refl

  pub try-row-more : (by : ℕ) (t : List ℕ) (n : ℕ) → counted q v by n ≡ true → try_row q v dist by t (n + 1) ≡ add_turns (try_row q v dist by t n) (12 * unit_at q by n) (dist by n) 12
  unfolding try_row
  try-row-more by t n e = rw (add-one n, e)

  pub try-row-pass : (by : ℕ) (t : List ℕ) (n : ℕ) → counted q v by n ≡ false → try_row q v dist by t (n + 1) ≡ try_row q v dist by t n
  unfolding try_row
  try-row-pass by t n e = rw (add-one n, e)

  pub try-rows-none : (t : List ℕ) → try_rows q v dist t 0 ≡ t
  unfolding try_rows
  try-rows-none t = refl

  pub try-rows-more : (t : List ℕ) (m : ℕ) → try_rows q v dist t (m + 1) ≡ try_row q v dist m (try_rows q v dist t m) (block_cols q)
  unfolding try_rows
  try-rows-more t m = rw (add-one m)

-- ---- applying

module _ (q : Picture) (g : ℕ → ℕ → Bool) (f : ℕ → ℕ → ℕ → ℕ → Tap) where
  pub apply-row-none : (by : ℕ) (d : List ℕ) → apply_row q g f by d 0 ≡ d
  unfolding apply_row
  apply-row-none by d = refl

  -- a block that g selects is written, another is not
  pub apply-row-more : (by : ℕ) (d : List ℕ) (n : ℕ) → g by n ≡ true
      → apply_row q g f by d (n + 1) ≡ put_block (apply_row q g f by d n) (plane_width q) (f by n) (by * block_height q) (n * block_width q) (block_width q) (block_height q)
  unfolding apply_row
  apply-row-more by d n e = rw (add-one n, e)

  pub apply-row-pass : (by : ℕ) (d : List ℕ) (n : ℕ) → g by n ≡ false → apply_row q g f by d (n + 1) ≡ apply_row q g f by d n
  unfolding apply_row
  apply-row-pass by d n e = rw (add-one n, e)

  pub apply-rows-none : (d : List ℕ) → apply_rows q g f d 0 ≡ d
  unfolding apply_rows
  apply-rows-none d = refl

  pub apply-rows-more : (d : List ℕ) (m : ℕ) → apply_rows q g f d (m + 1) ≡ apply_row q g f m (apply_rows q g f d m) (block_cols q)
  unfolding apply_rows
  apply-rows-more d m = rw (add-one m)

-- ---- distances that agree at every counted block leave the same totals

module _ (q : Picture) (v : Visible) (d1 d2 : ℕ → ℕ → ℕ) (same : (by bx : ℕ) → by < block_rows q → bx < block_cols q → counted q v by bx ≡ true → d1 by bx ≡ d2 by bx) where
  pub measure-row-same : (by : ℕ) (t : List ℕ) (n : ℕ) → by < block_rows q → n ≤ block_cols q → measure_row q v d1 by t n ≡ measure_row q v d2 by t n
  unfolding measure_row
  measure-row-same by t zero hy hx = refl
  measure-row-same by t (suc n) hy hx = go (counted q v by n) (same by n hy (omega arith)) (measure-row-same by t n hy (omega arith))
    where
      go : (b : Bool) → (b ≡ true → d1 by n ≡ d2 by n) → measure_row q v d1 by t n ≡ measure_row q v d2 by t n
          → cond b (add_at (measure_row q v d1 by t n) (unit_at q by n) (d1 by n)) (measure_row q v d1 by t n) ≡ cond b (add_at (measure_row q v d2 by t n) (unit_at q by n) (d2 by n)) (measure_row q v d2 by t n)
      go true s ih = rw (ih, s refl)
      go false s ih = ih

  pub measure-dist-same : (z : List ℕ) (m : ℕ) → m ≤ block_rows q → measure_rows q v d1 z m ≡ measure_rows q v d2 z m
  unfolding measure_rows
  measure-dist-same z zero h = refl
  measure-dist-same z (suc m) h = rw (measure-dist-same z m (omega arith)) (measure-row-same m (measure_rows q v d2 z m) (block_cols q) (omega arith) (omega arith))

module _ (q : Picture) (v : Visible) (d1 d2 : ℕ → ℕ → ℕ → ℕ) (same : (by bx t : ℕ) → by < block_rows q → bx < block_cols q → counted q v by bx ≡ true → t < 12 → d1 by bx t ≡ d2 by bx t) where
  pub try-row-same : (by : ℕ) (z : List ℕ) (n : ℕ) → by < block_rows q → n ≤ block_cols q → try_row q v d1 by z n ≡ try_row q v d2 by z n
  unfolding try_row
  try-row-same by z zero hy hx = refl
  try-row-same by z (suc n) hy hx = go (counted q v by n) (λ e t l. same by n t hy (omega arith) e l) (try-row-same by z n hy (omega arith))
    where
      go : (b : Bool) → (b ≡ true → (t : ℕ) → t < 12 → d1 by n t ≡ d2 by n t) → try_row q v d1 by z n ≡ try_row q v d2 by z n
          → cond b (add_turns (try_row q v d1 by z n) (12 * unit_at q by n) (d1 by n) 12) (try_row q v d1 by z n) ≡ cond b (add_turns (try_row q v d2 by z n) (12 * unit_at q by n) (d2 by n) 12) (try_row q v d2 by z n)
      go true s ih = rw ih (turns_same (try_row q v d2 by z n) (12 * unit_at q by n) (d1 by n) (d2 by n) 12 (s refl))
      go false s ih = ih

  pub try-dist-same : (z : List ℕ) (m : ℕ) → m ≤ block_rows q → try_rows q v d1 z m ≡ try_rows q v d2 z m
  unfolding try_rows
  try-dist-same z zero h = refl
  try-dist-same z (suc m) h = rw (try-dist-same z m (omega arith)) (try-row-same m (try_rows q v d2 z m) (block_cols q) (omega arith) (omega arith))
