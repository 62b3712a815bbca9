-- What is stored, row by row, is the block of the kernel's samples.
use Rattle.std.specs.Prelude.{◌≡◌, List, set, length}
use Rattle.std.proofs.Math.Path.{refl, ap}
use Rattle.std.proofs.Common.{sym, ◌∙◌, add-one, ne_eqb, get_or-set_same, ext_get_or, take_all}
use Rattle.std.proofs.lemmas.List.{places}
use Rattle.std.proofs.lemmas.List.Edits.{length-between, get_or-between}
use Rattle.std.specs.List.{between}
use Rattle.std.proofs.lemmas.Slice.{between_from_start}
use borrow.Rule.Slice.PartMut.{put_mid}
use Prim.Native.Nat.{ℕ, zero, suc, ◌+◌, ◌-◌, ◌*◌, ◌≤◌, ◌<◌}
use Rattle.std.proofs.Math.Decide.{dec_le, ℕ_discrete}
use native.Mathlib.Omega.{arith}
use Rattle.std.proofs.Math.ListN.{get_or, length-set}
use Rattle.std.proofs.Math.Seq.{get_or-set_other}
use Rattle.cdef_spec.specs.Standard.{Tap, sample}
use Rattle.cdef_spec.specs.Document01.{unmarked, or_else}
use Rattle.cdef_spec.specs.LoopForm.{put, put_row, put_block}
use Rattle.filter_rows.specs.Sums.{InRange}
use Rattle.filter_rows.specs.declared.Taps.{Taps}
use Rattle.filter_rows.specs.declared.Strength.{Strength}
use Rattle.filter_kernel.specs.Kernel.{kernel_at}
use Rattle.plane_taps.specs.Plain.{AllLow}
use Rattle.plane_rows.specs.Rows.{placed, placed_rows, KernelRows, inside_tap, Stored}
use Rattle.plane_rows.specs.LaneLaws.{kernel-below}

-- ---- one entry more

module _ (d : List ℕ) (to : ℕ) (v : List ℕ) (from : ℕ) where
  pub placed-none : placed d to v from 0 ≡ d
  unfolding placed
  placed-none = refl

  pub placed-more : (n : ℕ) → placed d to v from (n + 1) ≡ set (placed d to v from n) (to + n) (get_or v (from + n) 0)
  unfolding placed
  placed-more n = rw (add-one n)

pub placed-next-from : (d l v : List ℕ) (to from j : ℕ) → d ≡ placed l to v from j → set d (to + j) (get_or v (from + j) 0) ≡ placed l to v from (j + 1)
placed-next-from d l v to from j e = rw (placed-more l to v from j, e)

module _ (d : List ℕ) (w to : ℕ) (v : List ℕ) (m : ℕ) where
  pub rows_none : placed_rows d w to v m 0 ≡ d
  unfolding placed_rows
  rows_none = refl

  pub rows_more : (n : ℕ) → placed_rows d w to v m (n + 1) ≡ placed (placed_rows d w to v m n) (to + n * w) v (n * m) m
  unfolding placed_rows
  rows_more n = rw (add-one n)

pub rows_next : (l d last v : List ℕ) (w to i m : ℕ) → d ≡ placed_rows l w to v m i → last ≡ placed d (to + i * w) v (i * m) m → last ≡ placed_rows l w to v m (i + 1)
rows_next l d last v w to i m e h = h ∙ rw (rows_more l w to v m i, e)

-- ---- what a list holds in which entries were placed

ne-lt : (j n : ℕ) → j < suc n → (j ≡ n → ⊥) → j < n
ne-lt j n h q = go (dec_le n j)
  where
    go : Dec (n ≤ j) → j < n
    go (yes k) = absurd (q (omega arith))
    go (no k) = omega (arith, k)

module _ (d : List ℕ) (to : ℕ) (v : List ℕ) (from : ℕ) where
  pub length-placed : (n : ℕ) → length (placed d to v from n) ≡ length d
  unfolding placed
  length-placed zero = refl
  length-placed (suc n) = length-set (placed d to v from n) (to + n) (get_or v (from + n) 0) ∙ length-placed n

  placed-before : (k n : ℕ) → k < to → get_or (placed d to v from n) k 0 ≡ get_or d k 0
  unfolding placed
  placed-before k zero h = refl
  placed-before k (suc n) h = get_or-set_other (placed d to v from n) (to + n) k (get_or v (from + n) 0) 0 (λ e. omega (arith, e)) ∙ placed-before k n h

  placed_at : (j n : ℕ) → j < n → to + n ≤ length d → get_or (placed d to v from n) (to + j) 0 ≡ get_or v (from + j) 0
  unfolding placed
  placed_at j zero h b = absurd (omega arith)
  placed_at j (suc n) h b = go (ℕ_discrete j n) (λ k. placed_at j n k (omega arith))
    where
      go : Dec (j ≡ n) → (j < n → get_or (placed d to v from n) (to + j) 0 ≡ get_or v (from + j) 0) → get_or (set (placed d to v from n) (to + n) (get_or v (from + n) 0)) (to + j) 0 ≡ get_or v (from + j) 0
      go (yes e) old = rw e (get_or-set_same (placed d to v from n) (to + n) (get_or v (from + n) 0) 0 (omega (arith, length-placed n)))
      go (no q) old = get_or-set_other (placed d to v from n) (to + n) (to + j) (get_or v (from + n) 0) 0 (λ e. q (omega (arith, e))) ∙ old (ne-lt j n (omega arith) q)

  placed-after : (k n : ℕ) → to + n ≤ k → get_or (placed d to v from n) k 0 ≡ get_or d k 0
  unfolding placed
  placed-after k zero h = refl
  placed-after k (suc n) h = get_or-set_other (placed d to v from n) (to + n) k (get_or v (from + n) 0) 0 (λ e. omega (arith, e)) ∙ placed-after k n (omega arith)

-- n entries written at once
pub placed-mid : (d v ys : List ℕ) (to from n k e : ℕ) → k ≡ n → e ≡ from + n → to + n ≤ length d → e ≤ length v → ys ≡ between from e v → put_mid to k d ys ≡ placed d to v from n
placed-mid d v ys to from n k e ek ee hd hv ey =
    let m : length ys ≡ n = rw ey (length-between v from e hv ∙ omega arith) in
    let z : length (put_mid to k d ys) ≡ length d = grind (arith, places, m, ek, hd) in
    ext_get_or 0 (put_mid to k d ys) (placed d to v from n) (z ∙ sym (length-placed d to v from n)) (λ i l. go i (omega (arith, z)) m (dec_le to i) (dec_le (to + n) i))
  where
    go : (i : ℕ) → i < length d → length ys ≡ n → Dec (to ≤ i) → Dec (to + n ≤ i) → get_or (put_mid to k d ys) i 0 ≡ get_or (placed d to v from n) i 0
    go i l m (no a) b = rw (placed-before d to v from i n (omega (arith, a))) (grind (arith, places, m, ek, hd, a))
    go i l m (yes a) (yes b) = rw (placed-after d to v from i n b) (grind (arith, places, m, ek, hd, b))
    go i l m (yes a) (no b) =
        let j : to + (i - to) ≡ i = omega arith in
        let h : i - to < n = omega (arith, b) in
        let p : get_or (placed d to v from n) i 0 ≡ get_or v (from + (i - to)) 0 = rw j at (placed_at d to v from (i - to) n h hd) in
        let y : get_or ys (i - to) 0 ≡ get_or v (from + (i - to)) 0 = rw ey (get_or-between v from e (i - to) 0 (omega arith)) in
        grind (arith, places, m, ek, hd, a, h, p, y)

pub placed-whole : (d v ys : List ℕ) (to n k : ℕ) → k ≡ n → to + n ≤ length d → length v ≡ n → ys ≡ v → put_mid to k d ys ≡ placed d to v 0 n
placed-whole d v ys to n k ek hd hv ey = placed-mid d v ys to 0 n k n ek (omega arith) hd (omega arith) (ey ∙ sym (between_from_start v n ∙ take_all n v (omega arith)))

-- c rows of eight more
module _ (l : List ℕ) (w at : ℕ) (t : Taps) (f g : Strength) where
  pub kept : (d last v : List ℕ) (i c : ℕ) → KernelRows l d w at t f g 8 i → ((r j : ℕ) → r < c → j < 8 → get_or v (r * 8 + j) 0 ≡ kernel_at l (at + (i + r) * w + j) t f g) → i * 8 + c * 8 ≤ length d → last ≡ placed d (i * 8) v 0 (c * 8) → KernelRows l last w at t f g 8 (i + c)
  kept d last v i c old new room e = record { all = λ r j hr hj. rw e (go r j hr hj (dec_le i r)) }
    where
      go : (r j : ℕ) → r < i + c → j < 8 → Dec (i ≤ r) → get_or (placed d (i * 8) v 0 (c * 8)) (r * 8 + j) 0 ≡ kernel_at l (at + r * w + j) t f g
      go r j hr hj (no q) = placed-before d (i * 8) v 0 (r * 8 + j) (c * 8) (omega (arith, q)) ∙ old.all r j (omega (arith, q)) hj
      go r j hr hj (yes q) =
          let a : r * 8 + j ≡ i * 8 + ((r - i) * 8 + j) = omega arith in
          let z : 0 + ((r - i) * 8 + j) ≡ (r - i) * 8 + j = omega arith in
          let s : i + (r - i) ≡ r = omega arith in
          rw a (placed_at d (i * 8) v 0 ((r - i) * 8 + j) (c * 8) (omega arith) room ∙ rw z (new (r - i) j (omega arith) hj ∙ rw s))

-- ---- a run of samples is a row of taps

sampled : (v : ℕ) → v < 16384 → unmarked v ≡ sample v
unfolding unmarked
sampled v h = rw (ne_eqb v 16384 (λ e. omega (arith, e)))

row-placed : (d v : List ℕ) (w r x from : ℕ) (F : ℕ → ℕ → Tap) (n : ℕ) → ((j : ℕ) → j < n → F r (x + j) ≡ sample (get_or v (from + j) 0)) → placed d (r * w + x) v from n ≡ put_row d w F r x n
unfolding placed put_row put or_else
row-placed d v w r x from F zero h = refl
row-placed d v w r x from F (suc n) h =
    let e : r * w + x + n ≡ r * w + (x + n) = omega arith in
    rw (row-placed d v w r x from F n (λ j l. h j (omega arith)), h n (omega arith), e)

-- ---- rows of the kernel's samples

module _ (l : List ℕ) (low : AllLow l) (w at : ℕ) (t : Taps) (f g : Strength) (rf : InRange f) (rg : InRange g) where
  -- row i and column j, from row y and column x on
  tap-is : (y x i j : ℕ) → inside_tap l w at t f g y x (y + i) (x + j) ≡ sample (kernel_at l (at + (i * w + j)) t f g)
  unfolding inside_tap
  tap-is y x i j =
      let a : y + i - y ≡ i = omega arith in
      let b : x + j - x ≡ j = omega arith in
      rw (a, b) (sampled _ (kernel-below l low (at + (i * w + j)) t f g rf rg))

  pub rows_inside : (d v : List ℕ) (to y x m n : ℕ) → to ≡ y * w + x → KernelRows l v w at t f g m n → placed_rows d w to v m n ≡ put_block d w (inside_tap l w at t f g y x) y x m n
  unfolding placed_rows put_block
  rows_inside d v to y x m zero e h = refl
  rows_inside d v to y x m (suc n) e h =
      let a : to + n * w ≡ (y + n) * w + x = omega arith in
      rw (rows_inside d v to y x m n e (record { all = λ i j k. h.all i j (omega arith) }), a)
      (row-placed _ v w (y + n) x (n * m) (inside_tap l w at t f g y x) m (λ j k.
      let b : at + (n * w + j) ≡ at + n * w + j = omega arith in
      tap-is y x n j ∙ ap sample (rw b (sym (h.all n j (omega arith) k)))))

  pub stored : (d last v : List ℕ) (to i n : ℕ) → i ≡ n → KernelRows l v w at t f g 8 i → last ≡ placed_rows d w to v 8 n → Stored l d last w at to t f g 8 n
  stored d last v to i n e k h = record { block = λ y x p. h ∙ rows_inside d v to y x 8 n p (rw e at k) }
