-- THE KERNEL'S SAMPLE IS THE FILTERED SAMPLE of the plane.
use Rattle.std.specs.Prelude.{◌≡◌, Bool, List, ◌++◌, ◌⊎◌, ℕ, ◌+◌, ◌-◌, ◌*◌, ◌/◌, ◌%◌, ◌^◌, ◌≤◌, ◌<◌, min, max, get_or, ℤ, pos, ◌+ℤ◌, ◌*ℤ◌}
use Rattle.std.proofs.Math.Path.{refl, sym}
use Rattle.std.proofs.Common.{ap, ◌∙◌, inl, inr, arith}
use Rattle.std.proofs.Math.Bool.{true, false, cond}
use Rattle.std.proofs.Math.Decide.{ℕ_discrete}
use borrow.Author.Tests.{eq-eqb, ne_eqb, eqb-true}
use Rattle.std.proofs.Math.Dec.{eqb}
use Rattle.std.proofs.Math.IntN.{+ℤ_idl, +ℤ_idr}
use Rattle.cdef_spec.specs.declared.Block.{Block}
use Rattle.cdef_spec.specs.declared.FilterParams.{FilterParams}
use Rattle.cdef_spec.specs.Standard.{rounded, filter_taps, unclipped, cdef_filter, cdef_sec_taps}
use Rattle.cdef_spec.specs.Document01.{Plane, mark, unmarked, available, or_else, damping_from1, filter_centre, filtered}
use Rattle.cdef_spec.specs.CodeForm.{row_of, col_of, sample_at}
use Rattle.cdef_spec.proofs.PlaceLaws.{steps_low, available-here2}
use Rattle.cdef_spec.proofs.FilterLaws.{Around, around, clip-high, filter-off}
use Rattle.cdef_spec.proofs.ClipLaws.{clip-idle}
use Rattle.cdef_spec.proofs.TrialLaws.{total, pri_taps, sec_taps, sum-splits, max-is, min-is}
use Rattle.arith_sample.specs.Sample.{or_centre, con_of, finish_of, free_of}
use Rattle.arith_sample.specs.SampleLaws.{centre-mark, centre-tap, finish-mark, free-mark}
use Rattle.arith_sample.specs.Bounds.{Held}
use Rattle.arith_sample.specs.Upto.{upto}
use Rattle.filter_rows.specs.Sums.{pair_at, low_pair, high_pair, pri_at, side_at, sec_at, low_at, high_at, filtered_at}
use Rattle.filter_window.specs.Window.{window_at}
use Rattle.filter_kernel.specs.Kernel.{taps_of, off_at, shift_of, pri_of, sec_of, kernel_at}
use Rattle.filter_kernel.specs.ShapeLaws.{pri-shape, sec-shape, weights, low-lt, max-below}
use Rattle.filter_kernel.specs.PlaceLaws.{entry-is, centre-is, on-tap, back-tap}
use Rattle.filter_kernel.specs.OrderLaws.{max-twelve, min-twelve}
use Rattle.filter_kernel.specs.SumLaws.{Matches, joined, summed, greatest, smallest, total-is, highest-is, lowest-is, on_sample, back_sample, along, pri-matches, sec-matches}
use Rattle.filter_kernel.specs.FinishLaws.{finish-is, free-is, none, more, total-idle}

-- row i and column j of the block b of the plane p, filtered with q
module _ (p : Plane) (b : Block) (q : FilterParams) (i j : ℕ) (hh : b.height ≤ 8) (hw : b.width ≤ 8) (hi : i < b.height) (hj : j < b.width) (hd : q.dir < 8) (held : Held (upto (window_at p b) 144)) where
  win : List ℕ
  win = upto (window_at p b) 144

  -- its index in the window, and in the plane
  abbrev at : ℕ
  at = (i + 2) * 12 + 2 + j

  abbrev y : ℕ
  y = b.y + i

  abbrev x : ℕ
  x = b.x + j

  -- the centre, and the damping
  unfoldable c : ℕ
  c = sample_at p (y + 2) (x + 2)

  abbrev d : ℕ
  d = max 1 q.damping.0

  low : (r k : ℕ) → r ≤ 4 → k ≤ 4 → sample_at p (y + r) (x + k) ≤ 16384
  low r k hr hk = rw (← entry-is p b i j hh hw hi hj r k hr hk) (held.all ((i + r) * 12 + (j + k)))

  c-low : c ≤ 16384
  unfolding c
  c-low = low 2 2 (omega arith) (omega arith)

  here : get_or win at 0 ≡ c
  unfolding c win
  here = centre-is p b i j hh hw hi hj

  pair_is : (dir k s : ℕ) → dir < 8 → k < 2 → pair_at win at (off_at dir k) c s (shift_of s d) ≡ con_of (or_centre (on_sample p y x dir k) c) c s (shift_of s d) +ℤ con_of (or_centre (back_sample p y x dir k) c) c s (shift_of s d)
  unfolding pair_at win on_sample back_sample
  pair_is dir k s h g = rw (on-tap p b i j hh hw hi hj dir k c h g, back-tap p b i j hh hw hi hj dir k c h g)

  low-pair-is : (dir k : ℕ) → dir < 8 → k < 2 → low_pair win at (off_at dir k) c ≡ min (or_centre (on_sample p y x dir k) c) (or_centre (back_sample p y x dir k) c)
  unfolding low_pair win on_sample back_sample
  low-pair-is dir k h g = rw (on-tap p b i j hh hw hi hj dir k c h g, back-tap p b i j hh hw hi hj dir k c h g)

  high-pair-is : (dir k : ℕ) → dir < 8 → k < 2 → high_pair win at (off_at dir k) c ≡ max (or_centre (on_sample p y x dir k) c) (or_centre (back_sample p y x dir k) c)
  unfolding high_pair win on_sample back_sample
  high-pair-is dir k h g = rw (on-tap p b i j hh hw hi hj dir k c h g, back-tap p b i j hh hw hi hj dir k c h g)

  q8 : (q.dir + 2) % 8 < 8
  q8 = omega arith

  r8 : (q.dir + 6) % 8 < 8
  r8 = omega arith

  -- what a tap with strength s adds to the sum, less its weight
  abbrev con : ℕ → ℕ → ℤ
  con s t = con_of (or_centre t c) c s (shift_of s d)

  abbrev on : ℕ → ℕ → ℕ
  on dir k = on_sample p y x dir k

  abbrev back : ℕ → ℕ → ℕ
  back dir k = back_sample p y x dir k

  abbrev odd : ℕ
  odd = q.pri / 2 ^ (q.depth - 8) % 2

  abbrev q2 : ℕ
  q2 = (q.dir + 2) % 8

  abbrev q6 : ℕ
  q6 = (q.dir + 6) % 8

  pri-summed : summed c d (pri_taps (available p) y x c (damping_from1 q)) (along p y x q.dir)
      ≡ pos (4 - odd) *ℤ con q.pri (on q.dir 0) +ℤ (pos (4 - odd) *ℤ con q.pri (back q.dir 0) +ℤ (pos (2 + odd) *ℤ con q.pri (on q.dir 1) +ℤ (pos (2 + odd) *ℤ con q.pri (back q.dir 1) +ℤ pos 0)))
  unfolding summed along damping_from1
  pri-summed = let w = weights odd (omega arith) in rw (w.0, w.1)

  sec-summed : summed c d (sec_taps (available p) y x c (damping_from1 q)) (along p y x q2 ++ along p y x q6)
      ≡ pos 2 *ℤ con q.sec (on q2 0) +ℤ (pos 2 *ℤ con q.sec (back q2 0) +ℤ (pos 1 *ℤ con q.sec (on q2 1) +ℤ (pos 1 *ℤ con q.sec (back q2 1)
      +ℤ (pos 2 *ℤ con q.sec (on q6 0) +ℤ (pos 2 *ℤ con q.sec (back q6 0) +ℤ (pos 1 *ℤ con q.sec (on q6 1) +ℤ (pos 1 *ℤ con q.sec (back q6 1) +ℤ pos 0)))))))
  unfolding summed along damping_from1 cdef_sec_taps
  sec-summed = refl

  high-tree : high_at win at (taps_of q.dir)
      ≡ max (max (max (max (or_centre (on q.dir 0) c) (or_centre (back q.dir 0) c)) (max (or_centre (on q.dir 1) c) (or_centre (back q.dir 1) c))) (max (max (or_centre (on q2 0) c) (or_centre (back q2 0) c)) (max (or_centre (on q2 1) c) (or_centre (back q2 1) c))))
      (max (max (max (or_centre (on q6 0) c) (or_centre (back q6 0) c)) (max (or_centre (on q6 1) c) (or_centre (back q6 1) c))) c)
  unfolding high_at taps_of
  high-tree = rw (here, high-pair-is q.dir 0 hd (omega arith), high-pair-is q.dir 1 hd (omega arith), high-pair-is q2 0 q8 (omega arith), high-pair-is q2 1 q8 (omega arith), high-pair-is q6 0 r8 (omega arith), high-pair-is q6 1 r8 (omega arith))

  low-tree : low_at win at (taps_of q.dir)
      ≡ min (min (min (min (or_centre (on q.dir 0) c) (or_centre (back q.dir 0) c)) (min (or_centre (on q.dir 1) c) (or_centre (back q.dir 1) c))) (min (min (or_centre (on q2 0) c) (or_centre (back q2 0) c)) (min (or_centre (on q2 1) c) (or_centre (back q2 1) c))))
      (min (min (min (or_centre (on q6 0) c) (or_centre (back q6 0) c)) (min (or_centre (on q6 1) c) (or_centre (back q6 1) c))) c)
  unfolding low_at taps_of
  low-tree = rw (here, low-pair-is q.dir 0 hd (omega arith), low-pair-is q.dir 1 hd (omega arith), low-pair-is q2 0 q8 (omega arith), low-pair-is q2 1 q8 (omega arith), low-pair-is q6 0 r8 (omega arith), low-pair-is q6 1 r8 (omega arith))

  matches : Matches (pri_taps (available p) y x c (damping_from1 q) ++ sec_taps (available p) y x c (damping_from1 q)) (along p y x q.dir ++ (along p y x q2 ++ along p y x q6))
  unfolding damping_from1
  matches = joined (pri-matches p y x (damping_from1 q) hd low) (sec-matches p y x (damping_from1 q) hd low)

  -- ---- a centre that is not marked
  module _ (n : c ≡ 16384 → ⊥) where
    pri-is : pri_at win at (taps_of q.dir) (pri_of q.pri d q.depth) ≡ total c d (pri_taps (available p) y x c (damping_from1 q))
    unfolding pri_at taps_of pri_of damping_from1
    pri-is =
        rw (here, pair_is q.dir 0 q.pri hd (omega arith), pair_is q.dir 1 q.pri hd (omega arith))
        (pri-shape (4 - odd) (2 + odd) (con q.pri (on q.dir 0)) (con q.pri (back q.dir 0)) (con q.pri (on q.dir 1)) (con q.pri (back q.dir 1))
        ∙ sym (total-is c c-low n d (pri-matches p y x (damping_from1 q) hd low) ∙ pri-summed))

    sec-is : sec_at win at (taps_of q.dir) (sec_of q.sec d) ≡ total c d (sec_taps (available p) y x c (damping_from1 q))
    unfolding sec_at side_at taps_of sec_of damping_from1
    sec-is =
        rw (here, pair_is q2 0 q.sec q8 (omega arith), pair_is q2 1 q.sec q8 (omega arith), pair_is q6 0 q.sec r8 (omega arith), pair_is q6 1 q.sec r8 (omega arith))
        (sec-shape 2 1 (con q.sec (on q2 0)) (con q.sec (back q2 0)) (con q.sec (on q2 1)) (con q.sec (back q2 1)) (con q.sec (on q6 0)) (con q.sec (back q6 0)) (con q.sec (on q6 1)) (con q.sec (back q6 1))
        ∙ sym (total-is c c-low n d (sec-matches p y x (damping_from1 q) hd low) ∙ sec-summed))

    -- the standard's state around it
    sum_is : (filter_taps (available p) (damping_from1 q) y x c).sum ≡ pri_at win at (taps_of q.dir) (pri_of q.pri d q.depth) +ℤ sec_at win at (taps_of q.dir) (sec_of q.sec d)
    sum_is = unfold damping_from1 in sum-splits (available p) y x c (damping_from1 q) ∙ rw (pri-is, sec-is)

    high_is : (filter_taps (available p) (damping_from1 q) y x c).max ≡ high_at win at (taps_of q.dir)
    high_is =
        max-is (available p) y x c (damping_from1 q) ∙ highest-is c c-low n matches c (omega arith)
        ∙ unfold greatest along in max-twelve c _ _ _ _ _ _ _ _ _ _ _ _ ∙ sym high-tree

    low-is : (filter_taps (available p) (damping_from1 q) y x c).min ≡ low_at win at (taps_of q.dir)
    low-is =
        min-is (available p) y x c (damping_from1 q) ∙ lowest-is c c-low n matches c (omega arith)
        ∙ unfold smallest along in min-twelve c _ _ _ _ _ _ _ _ _ _ _ _ ∙ sym low-tree

    -- the filtered sample of the plane there
    result : ℕ
    result = cdef_filter (available p) (damping_from1 q) y x c

    unclipped-is : unclipped (available p) (damping_from1 q) y x c ≡ pos c +ℤ rounded (pri_at win at (taps_of q.dir) (pri_of q.pri d q.depth) +ℤ sec_at win at (taps_of q.dir) (sec_of q.sec d))
    unfolding unclipped
    unclipped-is = rw sum_is

    both_is : filtered_at win at (taps_of q.dir) (pri_of q.pri d q.depth) (sec_of q.sec d) ≡ result
    unfolding filtered_at result cdef_filter
    both_is =
        let a : Around c (filter_taps (available p) (damping_from1 q) y x c) = around (available p) (damping_from1 q) y x c in
        rw here
        (finish-is c (pri_at win at (taps_of q.dir) (pri_of q.pri d q.depth) +ℤ sec_at win at (taps_of q.dir) (sec_of q.sec d)) (low_at win at (taps_of q.dir)) (high_at win at (taps_of q.dir)) n (omega (arith, a.low, a.high, low-is, high_is))
        ∙ rw (← low-is, ← high_is, unclipped-is))

    -- with a strength 0 its taps add nothing, and nothing is clipped
    pri-off : q.pri ≡ 0 → total c d (pri_taps (available p) y x c (damping_from1 q)) ≡ pos 0
    unfolding damping_from1
    pri-off e = total-idle c d (more e (more e (more e (more e none))))

    sec-off : q.sec ≡ 0 → total c d (sec_taps (available p) y x c (damping_from1 q)) ≡ pos 0
    unfolding damping_from1
    sec-off e = total-idle c d (more e (more e (more e (more e (more e (more e (more e (more e none))))))))

    idle : (q.pri ≡ 0) ⊎ (q.sec ≡ 0) → pos result ≡ pos c +ℤ rounded (pri_at win at (taps_of q.dir) (pri_of q.pri d q.depth) +ℤ sec_at win at (taps_of q.dir) (sec_of q.sec d))
    unfolding result damping_from1
    idle e = clip-idle (available p) (damping_from1 q) y x c e ∙ unclipped-is

    pri-free : q.sec ≡ 0 → free_of (get_or win at 0) (pri_at win at (taps_of q.dir) (pri_of q.pri d q.depth)) ≡ result
    pri-free e =
        let z : ℤ = pri_at win at (taps_of q.dir) (pri_of q.pri d q.depth) in
        rw here (free-is c z result n (idle (inr e) ∙ ap (λ (k : ℤ). pos c +ℤ rounded k) (ap (λ (k : ℤ). z +ℤ k) (sec-is ∙ sec-off e) ∙ +ℤ_idr z)))

    sec-free : q.pri ≡ 0 → free_of (get_or win at 0) (sec_at win at (taps_of q.dir) (sec_of q.sec d)) ≡ result
    sec-free e =
        let z : ℤ = sec_at win at (taps_of q.dir) (sec_of q.sec d) in
        rw here (free-is c z result n (idle (inl e) ∙ ap (λ (k : ℤ). pos c +ℤ rounded k) (ap (λ (k : ℤ). k +ℤ z) (pri-is ∙ pri-off e) ∙ +ℤ_idl z)))

    neither : q.pri ≡ 0 → q.sec ≡ 0 → get_or win at 0 ≡ result
    unfolding result damping_from1
    neither e f = here ∙ sym (filter-off (available p) (damping_from1 q) y x c e f)

    centred : (t : ℕ) → t ≤ 16384 → or_centre t c < 16384
    centred t h = go (ℕ_discrete t 16384)
      where
        c-below : c < 16384
        c-below = low-lt c c-low n

        go : Dec (t ≡ 16384) → or_centre t c < 16384
        go (yes e) = rw (centre-mark t c e) c-below
        go (no k) = rw (centre-tap t c k n) (low-lt t h k)

    on_below : (dir k : ℕ) → dir < 8 → k < 2 → (or_centre (on dir k) c < 16384) × (or_centre (back dir k) c < 16384)
    unfolding on_sample back_sample
    on_below dir k h g =
        let l = steps_low dir k h g in
        (centred (sample_at p (y + row_of dir k) (x + col_of dir k)) (low (row_of dir k) (col_of dir k) l.0 l.1), centred (sample_at p (y + (4 - row_of dir k)) (x + (4 - col_of dir k))) (low (4 - row_of dir k) (4 - col_of dir k) (omega arith) (omega arith)))

    high-below : high_at win at (taps_of q.dir) < 16384
    high-below =
        let a = on_below q.dir 0 hd (omega arith) in
        let b = on_below q.dir 1 hd (omega arith) in
        let e = on_below q2 0 q8 (omega arith) in
        let f = on_below q2 1 q8 (omega arith) in
        let g = on_below q6 0 r8 (omega arith) in
        let h = on_below q6 1 r8 (omega arith) in
        rw high-tree (max-below (max-below (max-below (max-below a.0 a.1) (max-below b.0 b.1)) (max-below (max-below e.0 e.1) (max-below f.0 f.1))) (max-below (max-below (max-below g.0 g.1) (max-below h.0 h.1)) (low-lt c c-low n)))

    result-below : result < 16384
    unfolding result cdef_filter
    result-below =
        let a : Around c (filter_taps (available p) (damping_from1 q) y x c) = around (available p) (damping_from1 q) y x c in
        omega (arith, high-below, high_is, clip-high (filter_taps (available p) (damping_from1 q) y x c).min (filter_taps (available p) (damping_from1 q) y x c).max (unclipped (available p) (damping_from1 q) y x c) (omega (arith, a.low, a.high)))

    kernel-on : kernel_at win at (taps_of q.dir) (pri_of q.pri d q.depth) (sec_of q.sec d) ≡ result
    unfolding kernel_at pri_of sec_of
    kernel-on = go (eqb q.pri 0) (eqb q.sec 0) refl refl
      where
        go : (s t : Bool) → eqb q.pri 0 ≡ s → eqb q.sec 0 ≡ t
            → cond s (cond t (get_or win at 0) (free_of (get_or win at 0) (sec_at win at (taps_of q.dir) (sec_of q.sec d)))) (cond t (free_of (get_or win at 0) (pri_at win at (taps_of q.dir) (pri_of q.pri d q.depth))) (filtered_at win at (taps_of q.dir) (pri_of q.pri d q.depth) (sec_of q.sec d))) ≡ result
        go true true e f = neither (eqb-true _ _ e) (eqb-true _ _ f)
        go true false e f = sec-free (eqb-true _ _ e)
        go false true e f = pri-free (eqb-true _ _ f)
        go false false e f = both_is

  -- ---- a centre that is marked
  kernel-off : c ≡ 16384 → kernel_at win at (taps_of q.dir) (pri_of q.pri d q.depth) (sec_of q.sec d) ≡ 16384
  unfolding kernel_at filtered_at
  kernel-off e = rw here (go (eqb (pri_of q.pri d q.depth).s 0) (eqb (sec_of q.sec d).s 0) ∙ e)
    where
      go : (s t : Bool) → cond s (cond t c (free_of c (sec_at win at (taps_of q.dir) (sec_of q.sec d)))) (cond t (free_of c (pri_at win at (taps_of q.dir) (pri_of q.pri d q.depth))) (finish_of c (pri_at win at (taps_of q.dir) (pri_of q.pri d q.depth) +ℤ sec_at win at (taps_of q.dir) (sec_of q.sec d)) (low_at win at (taps_of q.dir)) (high_at win at (taps_of q.dir)))) ≡ c
      go true true = refl
      go true false = free-mark c _ e
      go false true = free-mark c _ e
      go false false = finish-mark c _ _ _ e

  centre-there : available p (pos y) (pos x) ≡ unmarked c
  unfolding c
  centre-there = available-here2 p y x

  -- a value that is the mark where the centre is marked, and the filtered sample where not
  settled : (v : ℕ) → (c ≡ 16384 → v ≡ 16384) → ((n : c ≡ 16384 → ⊥) → v ≡ result n) → v ≡ or_else mark (filtered p q (b.y + i) (b.x + j))
  unfolding filtered filter_centre or_else unmarked result
  settled v off on = rw centre-there (go (ℕ_discrete c 16384))
    where
      go : Dec (c ≡ 16384) → v ≡ or_else mark (filter_centre p q y x (unmarked c))
      go (yes e) = rw (eq-eqb c 16384 e) (off e)
      go (no n) = rw (ne_eqb c 16384 n) (on n)

  pub kernel-is : kernel_at (upto (window_at p b) 144) ((i + 2) * 12 + 2 + j) (taps_of q.dir) (pri_of q.pri (max 1 q.damping.0) q.depth) (sec_of q.sec (max 1 q.damping.0)) ≡ or_else mark (filtered p q (b.y + i) (b.x + j))
  unfolding win
  kernel-is = settled _ kernel-off kernel-on

  -- the parts of it, each alone
  pub centre-sample : q.pri ≡ 0 → q.sec ≡ 0 → get_or (upto (window_at p b) 144) ((i + 2) * 12 + 2 + j) 0 ≡ or_else mark (filtered p q (b.y + i) (b.x + j))
  unfolding win
  centre-sample e f = settled _ (λ m. here ∙ m) (λ n. neither n e f)

  pub pri-sample : q.sec ≡ 0 → free_of (get_or (upto (window_at p b) 144) ((i + 2) * 12 + 2 + j) 0) (pri_at (upto (window_at p b) 144) ((i + 2) * 12 + 2 + j) (taps_of q.dir) (pri_of q.pri (max 1 q.damping.0) q.depth)) ≡ or_else mark (filtered p q (b.y + i) (b.x + j))
  unfolding win
  pri-sample e = settled _ (λ m. free-mark _ _ (here ∙ m) ∙ here ∙ m) (λ n. pri-free n e)

  pub sec-sample : q.pri ≡ 0 → free_of (get_or (upto (window_at p b) 144) ((i + 2) * 12 + 2 + j) 0) (sec_at (upto (window_at p b) 144) ((i + 2) * 12 + 2 + j) (taps_of q.dir) (sec_of q.sec (max 1 q.damping.0))) ≡ or_else mark (filtered p q (b.y + i) (b.x + j))
  unfolding win
  sec-sample e = settled _ (λ m. free-mark _ _ (here ∙ m) ∙ here ∙ m) (λ n. sec-free n e)

  pub both-sample : filtered_at (upto (window_at p b) 144) ((i + 2) * 12 + 2 + j) (taps_of q.dir) (pri_of q.pri (max 1 q.damping.0) q.depth) (sec_of q.sec (max 1 q.damping.0)) ≡ or_else mark (filtered p q (b.y + i) (b.x + j))
  unfolding win filtered_at
  both-sample = settled _ (λ m. finish-mark _ _ _ _ (here ∙ m) ∙ here ∙ m) (λ n. both_is n)

  -- the same as a tap: the filtered sample is never the mark
  pub kernel-tap : unmarked (kernel_at (upto (window_at p b) 144) ((i + 2) * 12 + 2 + j) (taps_of q.dir) (pri_of q.pri (max 1 q.damping.0) q.depth) (sec_of q.sec (max 1 q.damping.0))) ≡ filtered p q (b.y + i) (b.x + j)
  unfolding filtered filter_centre unmarked win result
  kernel-tap = rw centre-there (go (ℕ_discrete c 16384))
    where
      go : Dec (c ≡ 16384) → unmarked (kernel_at win at (taps_of q.dir) (pri_of q.pri d q.depth) (sec_of q.sec d)) ≡ filter_centre p q y x (unmarked c)
      go (yes e) = rw (kernel-off e, eq-eqb c 16384 e)
      go (no n) = let b = result-below n in rw (kernel-on n, ne_eqb c 16384 n, ne_eqb (result n) 16384 (λ e. omega arith))
