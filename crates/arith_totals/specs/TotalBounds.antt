-- How large a total may become while the frame loops run: a unit has at most 8 by 8 blocks, each of at most D.
use Rattle.std.specs.Prelude.{◌≡◌, refl, Bool, List, eqb, set, length, replicate}
use Rattle.std.proofs.Common.{sym, ap, ◌∙◌, mul-le-mul_right, eq-eqb, ne_eqb, get_or-set_same, get_or-set_other}
use Rattle.std.proofs.Math.Bool.{true, false, cond}
use Prim.Native.Nat.{ℕ, zero, suc, ◌+◌, ◌-◌, ◌*◌, ◌/◌, ◌%◌, ◌≤◌, ◌<◌, min}
use Rattle.std.proofs.Math.Decide.{ℕ_discrete, dec_lt}
use native.Mathlib.Omega.{arith}
use Rattle.std.proofs.Math.Arith.{digits_div, digits_mod}
use Rattle.std.proofs.Math.ListN.{get_or}
use Rattle.std.proofs.Math.Seq.{set_out}
use Rattle.cdef_spec.specs.declared.Visible.{Visible}
use Rattle.cdef_spec.specs.Words.{sum}
use Rattle.cdef_spec.specs.Picture.{Picture, block_rows, block_cols, unit_cols, units, unit_at, counted}
use Rattle.cdef_spec.specs.LoopForm.{add_at, add_turns, measure_row, measure_rows, try_row, try_rows}

-- ---- sums

-- of the numbers below n, those with the quotient a by 8 are at most 8
eights : (n a x : ℕ) → sum n (λ k. cond (eqb (k / 8) a) x 0) ≡ min 8 (n - 8 * a) * x
unfolding sum
eights zero a x = let m : min 8 (0 - 8 * a) ≡ 0 = omega arith in rw m (omega arith)
eights (suc n) a x = go (ℕ_discrete (n / 8) a) (eights n a x)
  where
    go : Dec (n / 8 ≡ a) → sum n (λ k. cond (eqb (k / 8) a) x 0) ≡ min 8 (n - 8 * a) * x → sum n (λ k. cond (eqb (k / 8) a) x 0) + cond (eqb (n / 8) a) x 0 ≡ min 8 (suc n - 8 * a) * x
    go (yes e) ih =
        let m : min 8 (suc n - 8 * a) ≡ suc (min 8 (n - 8 * a)) = omega arith in
        rw (eq-eqb (n / 8) a e, ih, m) (omega arith)
    go (no g) ih =
        let m : min 8 (suc n - 8 * a) ≡ min 8 (n - 8 * a) = omega arith in
        rw (ne_eqb (n / 8) a g, ih, m) (omega arith)

eights-low : (n a x : ℕ) → sum n (λ k. cond (eqb (k / 8) a) x 0) ≤ 8 * x
eights-low n a x =
    let m : min 8 (n - 8 * a) ≤ 8 = omega arith in
    rw (eights n a x) (mul-le-mul_right x m)

-- the same with the last summand apart
eights-more : (n a x : ℕ) → sum n (λ k. cond (eqb (k / 8) a) x 0) + cond (eqb (n / 8) a) x 0 ≤ 8 * x
unfolding sum
eights-more n a x = eights-low (suc n) a x

sum_low : (n : ℕ) (f g : ℕ → ℕ) → ((k : ℕ) → k < n → f k ≤ g k) → sum n f ≤ sum n g
unfolding sum
sum_low zero f g h = omega arith
sum_low (suc n) f g h = omega (arith, sum_low n f g (λ k b. h k (omega arith)), h n (omega arith))

sum-none : (n : ℕ) (f : ℕ → ℕ) → ((k : ℕ) → k < n → f k ≡ 0) → sum n f ≡ 0
unfolding sum
sum-none zero f h = refl
sum-none (suc n) f h = rw (sum-none n f (λ k b. h k (omega arith)), h n (omega arith))

-- a stricter test selects no more
test_low : (i j k l x : ℕ) → (i ≡ j → k ≡ l) → cond (eqb i j) x 0 ≤ cond (eqb k l) x 0
test_low i j k l x h = go (ℕ_discrete i j)
  where
    go : Dec (i ≡ j) → cond (eqb i j) x 0 ≤ cond (eqb k l) x 0
    go (yes e) = rw (eq-eqb i j e, eq-eqb k l (h e)) (omega arith)
    go (no g) = rw (ne_eqb i j g) (omega arith)

-- ---- one addition, and iterations

get_or-zeros : (n i : ℕ) → get_or {A = ℕ} (replicate n 0) i 0 ≡ 0
get_or-zeros zero i = refl
get_or-zeros (suc n) zero = refl
get_or-zeros (suc n) (suc i) = get_or-zeros n i

-- nothing is added past the end of a list
add_low : (t : List ℕ) (i n j : ℕ) → get_or (add_at t i n) j 0 ≤ get_or t j 0 + cond (eqb i j) n 0
unfolding add_at
add_low t i n j = go (ℕ_discrete i j) (dec_lt j (length t))
  where
    go : Dec (i ≡ j) → Dec (j < length t) → get_or (set t i (get_or t i 0 + n)) j 0 ≤ get_or t j 0 + cond (eqb i j) n 0
    go (yes e) (yes l) = rw (eq-eqb i j e, e, get_or-set_same t j (get_or t j 0 + n) 0 l) (omega arith)
    go (yes e) (no g) = rw (eq-eqb i j e, e, set_out t j (get_or t j 0 + n) (omega arith)) (omega arith)
    go (no g) l = rw (ne_eqb i j g, get_or-set_other t i j (get_or t i 0 + n) 0 (λ e. g (sym e))) (omega arith)

-- n iterations leave the entries outside base .. base + n - 1
turns-out : (t : List ℕ) (base : ℕ) (d : ℕ → ℕ) (n i : ℕ) → (base ≤ i → i < base + n → ⊥) → get_or (add_turns t base d n) i 0 ≤ get_or t i 0
unfolding add_turns
turns-out t base d zero i h = omega arith
turns-out t base d (suc n) i h =
    let a = add_low (add_turns t base d n) (base + n) (d n) i in
    let b = turns-out t base d n i (λ k l. h k (omega arith)) in
    let e = ne_eqb (base + n) i (λ z. h (omega arith) (omega arith)) in
    omega (arith, rw e at a, b)

-- an entry gets at most one of the iterations
turns-one : (t : List ℕ) (base : ℕ) (d : ℕ → ℕ) (n D i : ℕ) → ((k : ℕ) → k < n → d k ≤ D) → get_or (add_turns t base d n) i 0 ≤ get_or t i 0 + D
unfolding add_turns
turns-one t base d zero D i h = omega arith
turns-one t base d (suc n) D i h = go (ℕ_discrete (base + n) i) (add_low (add_turns t base d n) (base + n) (d n) i) (turns-one t base d n D i (λ k l. h k (omega arith)))
  where
    go : Dec (base + n ≡ i) → get_or (add_at (add_turns t base d n) (base + n) (d n)) i 0 ≤ get_or (add_turns t base d n) i 0 + cond (eqb (base + n) i) (d n) 0 → get_or (add_turns t base d n) i 0 ≤ get_or t i 0 + D → get_or (add_at (add_turns t base d n) (base + n) (d n)) i 0 ≤ get_or t i 0 + D
    go (yes e) a ih = omega (arith, rw (eq-eqb (base + n) i e) at a, turns-out t base d n i (λ k l. omega arith), h n (omega arith))
    go (no g) a ih = omega (arith, rw (ne_eqb (base + n) i g) at a, ih)

pub turns-low : (t : List ℕ) (base : ℕ) (d : ℕ → ℕ) (k D B : ℕ) → ((j : ℕ) → j < k → d j ≤ D) → ((i : ℕ) → get_or t i 0 ≤ B) → (i : ℕ) → get_or (add_turns t base d k) i 0 ≤ B + D
turns-low t base d k D B h b i = omega (arith, turns-one t base d k D i h, b i)

-- twelve iterations at 12 * u reach the entries of u alone
twelve-low : (t : List ℕ) (u : ℕ) (d : ℕ → ℕ) (D i : ℕ) → ((k : ℕ) → k < 12 → d k ≤ D) → get_or (add_turns t (12 * u) d 12) i 0 ≤ get_or t i 0 + cond (eqb u (i / 12)) D 0
twelve-low t u d D i h = go (ℕ_discrete u (i / 12))
  where
    go : Dec (u ≡ i / 12) → get_or (add_turns t (12 * u) d 12) i 0 ≤ get_or t i 0 + cond (eqb u (i / 12)) D 0
    go (yes e) = rw (eq-eqb u (i / 12) e) (turns-one t (12 * u) d 12 D i h)
    go (no g) = rw (ne_eqb u (i / 12) g) (omega (arith, turns-out t (12 * u) d 12 i (λ k l. g (omega arith))))

-- ---- the blocks of a unit

-- a block's unit fixes its row / 8 and its column / 8
unit-parts : (q : Picture) (by bx u : ℕ) → bx < block_cols q → unit_at q by bx ≡ u → (by / 8 ≡ u / unit_cols q) × (bx / 8 ≡ u % unit_cols q)
unfolding unit_at
unit-parts q by bx u h e =
    let l : bx / 8 < unit_cols q = omega arith in
    (sym (digits_div (by / 8) {m = unit_cols q} {r = bx / 8} l) ∙ ap (λ (n : ℕ). n / unit_cols q) e, sym (digits_mod (by / 8) {m = unit_cols q} {r = bx / 8} l) ∙ ap (λ (n : ℕ). n % unit_cols q) e)

-- a row of blocks has at most 8 of unit u, and none unless it runs through u
row_low : (q : Picture) (u D by n : ℕ) → n ≤ block_cols q → sum n (λ bx. cond (eqb (unit_at q by bx) u) D 0) ≤ cond (eqb (by / 8) (u / unit_cols q)) (8 * D) 0
row_low q u D by n h = go (ℕ_discrete (by / 8) (u / unit_cols q))
  where
    go : Dec (by / 8 ≡ u / unit_cols q) → sum n (λ bx. cond (eqb (unit_at q by bx) u) D 0) ≤ cond (eqb (by / 8) (u / unit_cols q)) (8 * D) 0
    go (yes e) =
        let a = sum_low n (λ bx. cond (eqb (unit_at q by bx) u) D 0) (λ bx. cond (eqb (bx / 8) (u % unit_cols q)) D 0) (λ bx l. test_low (unit_at q by bx) u (bx / 8) (u % unit_cols q) D (λ z. (unit-parts q by bx u (omega arith) z).1)) in
        rw (eq-eqb (by / 8) (u / unit_cols q) e) (omega (arith, a, eights-low n (u % unit_cols q) D))
    go (no g) =
        let a = sum-none n (λ bx. cond (eqb (unit_at q by bx) u) D 0) (λ bx l. rw (ne_eqb (unit_at q by bx) u (λ z. g (unit-parts q by bx u (omega arith) z).0))) in
        omega (arith, a)

-- ---- measuring

module _ (q : Picture) (v : Visible) (dist : ℕ → ℕ → ℕ) (D : ℕ) (h : (by bx : ℕ) → by < block_rows q → bx < block_cols q → counted q v by bx ≡ true → dist by bx ≤ D) where
  measure-row-sum : (by : ℕ) (t : List ℕ) (n u : ℕ) → by < block_rows q → n ≤ block_cols q → get_or (measure_row q v dist by t n) u 0 ≤ get_or t u 0 + sum n (λ bx. cond (eqb (unit_at q by bx) u) D 0)
  unfolding measure_row sum
  measure-row-sum by t zero u hy hx = omega arith
  measure-row-sum by t (suc n) u hy hx = go (counted q v by n) (h by n hy (omega arith)) (ℕ_discrete (unit_at q by n) u) (measure-row-sum by t n u hy (omega arith))
    where
      go : (b : Bool) → (b ≡ true → dist by n ≤ D) → Dec (unit_at q by n ≡ u) → get_or (measure_row q v dist by t n) u 0 ≤ get_or t u 0 + sum n (λ bx. cond (eqb (unit_at q by bx) u) D 0)
          → get_or (cond b (add_at (measure_row q v dist by t n) (unit_at q by n) (dist by n)) (measure_row q v dist by t n)) u 0 ≤ get_or t u 0 + (sum n (λ bx. cond (eqb (unit_at q by bx) u) D 0) + cond (eqb (unit_at q by n) u) D 0)
      go true l (yes e) ih = let a = add_low (measure_row q v dist by t n) (unit_at q by n) (dist by n) u in
          rw (eq-eqb (unit_at q by n) u e) (omega (arith, rw (eq-eqb (unit_at q by n) u e) at a, ih, l refl))
      go true l (no g) ih = let a = add_low (measure_row q v dist by t n) (unit_at q by n) (dist by n) u in
          rw (ne_eqb (unit_at q by n) u g) (omega (arith, rw (ne_eqb (unit_at q by n) u g) at a, ih))
      go false l d ih = omega (arith, ih)

  measure-rows-sum : (t : List ℕ) (m u : ℕ) → m ≤ block_rows q → get_or (measure_rows q v dist t m) u 0 ≤ get_or t u 0 + sum m (λ by. cond (eqb (by / 8) (u / unit_cols q)) (8 * D) 0)
  unfolding measure_rows sum
  measure-rows-sum t zero u hm = omega arith
  measure-rows-sum t (suc m) u hm =
      let a = measure-row-sum m (measure_rows q v dist t m) (block_cols q) u (omega arith) (omega arith) in
      let b = row_low q u D m (block_cols q) (omega arith) in
      omega (arith, a, b, measure-rows-sum t m u (omega arith))

  -- at every iteration of the loops, each total is at most 64 * D
  pub measure-low : (m n u : ℕ) → m < block_rows q → n ≤ block_cols q → get_or (measure_row q v dist m (measure_rows q v dist (replicate (units q) 0) m) n) u 0 ≤ 64 * D
  measure-low m n u hm hn =
      let a = measure-row-sum m (measure_rows q v dist (replicate (units q) 0) m) n u hm hn in
      let b = row_low q u D m n hn in
      let c = measure-rows-sum (replicate (units q) 0) m u (omega arith) in
      omega (arith, a, b, c, get_or-zeros (units q) u, eights-more m (u / unit_cols q) (8 * D))

-- ---- trying: entry i of the totals belongs to the unit i / 12 and the trial i % 12

module _ (q : Picture) (v : Visible) (dist : ℕ → ℕ → ℕ → ℕ) (D : ℕ) (h : (by bx t : ℕ) → by < block_rows q → bx < block_cols q → counted q v by bx ≡ true → t < 12 → dist by bx t ≤ D) where
  try-row-sum : (by : ℕ) (z : List ℕ) (n i : ℕ) → by < block_rows q → n ≤ block_cols q → get_or (try_row q v dist by z n) i 0 ≤ get_or z i 0 + sum n (λ bx. cond (eqb (unit_at q by bx) (i / 12)) D 0)
  unfolding try_row sum
  try-row-sum by z zero i hy hx = omega arith
  try-row-sum by z (suc n) i hy hx = go (counted q v by n) (λ e t l. h by n t hy (omega arith) e l) (try-row-sum by z n i hy (omega arith))
    where
      go : (b : Bool) → (b ≡ true → (t : ℕ) → t < 12 → dist by n t ≤ D) → get_or (try_row q v dist by z n) i 0 ≤ get_or z i 0 + sum n (λ bx. cond (eqb (unit_at q by bx) (i / 12)) D 0)
          → get_or (cond b (add_turns (try_row q v dist by z n) (12 * unit_at q by n) (dist by n) 12) (try_row q v dist by z n)) i 0 ≤ get_or z i 0 + (sum n (λ bx. cond (eqb (unit_at q by bx) (i / 12)) D 0) + cond (eqb (unit_at q by n) (i / 12)) D 0)
      go true l ih = omega (arith, twelve-low (try_row q v dist by z n) (unit_at q by n) (dist by n) D i (l refl), ih)
      go false l ih = omega (arith, ih)

  try-rows-sum : (z : List ℕ) (m i : ℕ) → m ≤ block_rows q → get_or (try_rows q v dist z m) i 0 ≤ get_or z i 0 + sum m (λ by. cond (eqb (by / 8) (i / 12 / unit_cols q)) (8 * D) 0)
  unfolding try_rows sum
  try-rows-sum z zero i hm = omega arith
  try-rows-sum z (suc m) i hm =
      let a = try-row-sum m (try_rows q v dist z m) (block_cols q) i (omega arith) (omega arith) in
      let b = row_low q (i / 12) D m (block_cols q) (omega arith) in
      omega (arith, a, b, try-rows-sum z m i (omega arith))

  pub try-low : (m n i : ℕ) → m < block_rows q → n ≤ block_cols q → get_or (try_row q v dist m (try_rows q v dist (replicate (12 * units q) 0) m) n) i 0 ≤ 64 * D
  try-low m n i hm hn =
      let a = try-row-sum m (try_rows q v dist (replicate (12 * units q) 0) m) n i hm hn in
      let b = row_low q (i / 12) D m n hn in
      let c = try-rows-sum (replicate (12 * units q) 0) m i (omega arith) in
      omega (arith, a, b, c, get_or-zeros (12 * units q) i, eights-more m (i / 12 / unit_cols q) (8 * D))
