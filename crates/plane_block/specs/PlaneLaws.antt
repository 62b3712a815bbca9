-- A SAMPLE TWO OR MORE INSIDE THE PLANE, filtered straight from the plane, is the filtered sample of the plane.
use Rattle.std.specs.Prelude.{◌≡◌, true, ◌&&◌, List, leb}
use Rattle.std.proofs.Math.Path.{refl, sym, ap}
use Rattle.std.proofs.Common.{◌∙◌, mul-le-mul, mul-le-mul_right, mul_comm, leb-true}
use Prim.Native.Nat.{ℕ, zero, suc, ◌+◌, ◌-◌, ◌*◌, ◌/◌, ◌%◌, ◌^◌, ◌≤◌, ◌<◌, max}
use native.Mathlib.Omega.{arith}
use Rattle.std.proofs.Math.ListN.{get_or}
use Rattle.cdef_spec.specs.declared.Block.{Block}
use Rattle.cdef_spec.specs.declared.FilterParams.{FilterParams}
use Rattle.cdef_spec.specs.WordsLaws.{and_both}
use Rattle.cdef_spec.specs.Standard.{Tap}
use Rattle.cdef_spec.specs.Document01.{unmarked, filtered}
use Rattle.cdef_spec.specs.CodeForm.{row_of, col_of, sample_at}
use Rattle.cdef_spec.proofs.PlaceLaws.{steps_low}
use Rattle.cdef_spec.specs.LoopForm.{put_block}
use Rattle.cdef_spec.proofs.PlaneLaws.{block_same}
use Rattle.arith_sample.specs.Sample.{or_centre}
use Rattle.arith_sample.specs.Bounds.{Held}
use Rattle.arith_sample.specs.Upto.{upto}
use Rattle.filter_rows.specs.Place.{tap_on, tap_back}
use Rattle.filter_rows.specs.Sums.{InRange, pair_at, low_pair, high_pair, pri_at, side_at, sec_at, low_at, high_at, filtered_at}
use Rattle.filter_rows.specs.declared.Strength.{Strength}
use Rattle.filter_window.specs.Window.{plane_of, window_at}
use Rattle.filter_window.specs.WindowLaws.{sample_in}
use Rattle.filter_kernel.specs.Kernel.{off_at, taps_of, shift_of, pri_of, sec_of, kernel_at}
use Rattle.filter_kernel.specs.PlaceLaws.{centre-is, on-tap, back-tap}
use Rattle.filter_kernel.specs.KernelLaws.{kernel-tap}
use Rattle.plane_taps.specs.Steps.{step_by, step_in, taps_by, taps_in}
use Rattle.plane_taps.specs.StepLaws.{on-lands, back-lands, taps-reach}
use Rattle.plane_taps.specs.Reach.{Around}
use Rattle.plane_taps.specs.ReachLaws.{around-of}
use Rattle.plane_rows.specs.Rows.{pri_in, sec_in, inside_tap}
use Rattle.plane_block.specs.Inside.{Inner}
use Rattle.plane_inside.specs.Inner.{inner_block}

-- row i and column j of the block b of a plane w by h
module _ (l : List ℕ) (w h : ℕ) (b : Block) (i j : ℕ) (hw : w ≤ 4096) (hh : h ≤ 4096) (bw : b.width ≤ 8) (bh : b.height ≤ 8) (hi : i < b.height) (hj : j < b.width) (x2 : 2 ≤ b.x) (y2 : 2 ≤ b.y) (xw : b.x + b.width + 2 ≤ w) (yh : b.y + b.height + 2 ≤ h) where
  abbrev win : List ℕ
  win = upto (window_at (plane_of l w h) b) 144

  -- its index in the plane, and in the window
  abbrev k : ℕ
  k = (b.y + i) * w + (b.x + j)

  abbrev at : ℕ
  at = (i + 2) * 12 + 2 + j

  -- a sample of the plane, counted from two above and two left
  there : (r c : ℕ) → r ≤ 4 → c ≤ 4 → sample_at (plane_of l w h) (b.y + i + r) (b.x + j + c) ≡ get_or l ((b.y + i + r - 2) * w + (b.x + j + c - 2)) 0
  there r c hr hc = sample_in (plane_of l w h) (b.y + i + r) (b.x + j + c) (omega arith) (omega arith) (omega arith) (omega arith)

  centre-same : get_or l k 0 ≡ get_or win at 0
  centre-same = sym (centre-is (plane_of l w h) b i j bh bw hi hj ∙ there 2 2 (omega arith) (omega arith) ∙ ap (λ (n : ℕ). get_or l n 0) place)
    where
      place : (b.y + i + 2 - 2) * w + (b.x + j + 2 - 2) ≡ (b.y + i) * w + (b.x + j)
      place =
          let e : b.y + i + 2 - 2 ≡ b.y + i = omega arith in
          let f : b.x + j + 2 - 2 ≡ b.x + j = omega arith in
          rw (e, f)

  -- its taps
  module _ (dir n : ℕ) (hd : dir < 8) (hn : n < 2) where
    on_same : (c : ℕ) → tap_on l k (step_in w dir n) c ≡ tap_on win at (off_at dir n) c
    on_same c =
        let s = steps_low dir n hd hn in
        unfold tap_on step_by in ap (λ (v : ℕ). or_centre v c) (ap (λ (m : ℕ). get_or l m 0) (on-lands w (b.y + i) (b.x + j) (row_of dir n) (col_of dir n) hw (omega arith) (omega arith) (omega arith) (omega arith) s.0 s.1) ∙ sym (there (row_of dir n) (col_of dir n) s.0 s.1)) ∙ sym (on-tap (plane_of l w h) b i j bh bw hi hj dir n c hd hn)

    back-same : (c : ℕ) → tap_back l k (step_in w dir n) c ≡ tap_back win at (off_at dir n) c
    back-same c =
        let s = steps_low dir n hd hn in
        unfold tap_back step_by in ap (λ (v : ℕ). or_centre v c) (ap (λ (m : ℕ). get_or l m 0) (back-lands w (b.y + i) (b.x + j) (row_of dir n) (col_of dir n) hw (omega arith) (omega arith) (omega arith) (omega arith) s.0 s.1) ∙ sym (there (4 - row_of dir n) (4 - col_of dir n) (omega arith) (omega arith))) ∙ sym (back-tap (plane_of l w h) b i j bh bw hi hj dir n c hd hn)

    pair_same : (c s sh : ℕ) → pair_at l k (step_in w dir n) c s sh ≡ pair_at win at (off_at dir n) c s sh
    unfolding pair_at
    pair_same c s sh = rw (on_same c, back-same c)

    low_same : (c : ℕ) → low_pair l k (step_in w dir n) c ≡ low_pair win at (off_at dir n) c
    unfolding low_pair
    low_same c = rw (on_same c, back-same c)

    high_same : (c : ℕ) → high_pair l k (step_in w dir n) c ≡ high_pair win at (off_at dir n) c
    unfolding high_pair
    high_same c = rw (on_same c, back-same c)

  module _ (dir : ℕ) (hd : dir < 8) where
    q8 : (dir + 2) % 8 < 8
    q8 = omega arith

    r8 : (dir + 6) % 8 < 8
    r8 = omega arith

    pri-same : (f : Strength) → pri_at l k (taps_in w dir) f ≡ pri_at win at (taps_of dir) f
    unfolding pri_at taps_by taps_of
    pri-same f = rw (centre-same, pair_same dir 0 hd (omega arith) _ f.s f.sh, pair_same dir 1 hd (omega arith) _ f.s f.sh)

    sec-same : (f : Strength) → sec_at l k (taps_in w dir) f ≡ sec_at win at (taps_of dir) f
    unfolding sec_at side_at taps_by taps_of
    sec-same f = rw (centre-same, pair_same ((dir + 2) % 8) 0 q8 (omega arith) _ f.s f.sh, pair_same ((dir + 2) % 8) 1 q8 (omega arith) _ f.s f.sh, pair_same ((dir + 6) % 8) 0 r8 (omega arith) _ f.s f.sh, pair_same ((dir + 6) % 8) 1 r8 (omega arith) _ f.s f.sh)

    lowest-same : low_at l k (taps_in w dir) ≡ low_at win at (taps_of dir)
    unfolding low_at taps_by taps_of
    lowest-same = rw (centre-same, low_same dir 0 hd (omega arith) _, low_same dir 1 hd (omega arith) _, low_same ((dir + 2) % 8) 0 q8 (omega arith) _, low_same ((dir + 2) % 8) 1 q8 (omega arith) _, low_same ((dir + 6) % 8) 0 r8 (omega arith) _, low_same ((dir + 6) % 8) 1 r8 (omega arith) _)

    highest-same : high_at l k (taps_in w dir) ≡ high_at win at (taps_of dir)
    unfolding high_at taps_by taps_of
    highest-same = rw (centre-same, high_same dir 0 hd (omega arith) _, high_same dir 1 hd (omega arith) _, high_same ((dir + 2) % 8) 0 q8 (omega arith) _, high_same ((dir + 2) % 8) 1 q8 (omega arith) _, high_same ((dir + 6) % 8) 0 r8 (omega arith) _, high_same ((dir + 6) % 8) 1 r8 (omega arith) _)

    pub kernel-same : (f g : Strength) → kernel_at l k (taps_in w dir) f g ≡ kernel_at win at (taps_of dir) f g
    unfolding kernel_at filtered_at
    kernel-same f g = rw (centre-same, pri-same f, sec-same g, lowest-same, highest-same)

-- ---- a block, or its lower half

-- two parts of a block, one after the other
pub block-two : (d : List ℕ) (w : ℕ) (F : ℕ → ℕ → Tap) (y x bw m n : ℕ) → put_block (put_block d w F y x bw m) w F (y + m) x bw n ≡ put_block d w F y x bw (m + n)
unfolding put_block
block-two d w F y x bw m zero = let e : m + 0 ≡ m = omega arith in rw e
block-two d w F y x bw m (suc n) =
    let e : m + suc n ≡ suc (m + n) = omega arith in
    let f : y + m + n ≡ y + (m + n) = omega arith in
    rw (e, block-two d w F y x bw m n, f)

-- its rows from y1 on
module _ (l : List ℕ) (w h : ℕ) (b : Block) (q : FilterParams) (y0 y1 : ℕ) (hw : w ≤ 4096) (hh : h ≤ 4096) (bw : b.width ≤ 8) (bh : b.height ≤ 8) (x2 : 2 ≤ b.x) (y2 : 2 ≤ b.y) (xw : b.x + b.width + 2 ≤ w) (yh : b.y + b.height + 2 ≤ h) (low : y0 ≤ y1) (from : b.y ≤ y1) (hd : q.dir < 8) (held : Held (upto (window_at (plane_of l w h) b) 144)) where
  abbrev pri : Strength
  pri = pri_of q.pri (max 1 q.damping.0) q.depth

  abbrev sec : Strength
  sec = sec_of q.sec (max 1 q.damping.0)

  tap-inside : (r c : ℕ) → y1 - y0 ≤ r → r < y1 - y0 + (b.y + b.height - y1) → b.x ≤ c → c < b.x + b.width → inside_tap l w (y1 * w + b.x) (taps_in w q.dir) pri sec (y1 - y0) b.x r c ≡ filtered (plane_of l w h) q (y0 + r) c
  unfolding inside_tap
  tap-inside r c lo hi left right =
      let i : ℕ = y0 + r - b.y in
      let j : ℕ = c - b.x in
      let n : ℕ = r - (y1 - y0) in
      let s : y1 + n ≡ b.y + i = omega arith in
      let e : (y1 + n) * w ≡ (b.y + i) * w = ap (λ (m : ℕ). m * w) s in
      let z : y1 * w + b.x + (n * w + j) ≡ (b.y + i) * w + (b.x + j) = omega arith in
      let u : b.y + i ≡ y0 + r = omega arith in
      let v : b.x + j ≡ c = omega arith in
      ap (λ (m : ℕ). unmarked (kernel_at l m (taps_in w q.dir) pri sec)) z
      ∙ ap unmarked (kernel-same l w h b i j hw hh bw bh (omega arith) (omega arith) x2 y2 xw yh q.dir hd pri sec)
      ∙ kernel-tap (plane_of l w h) b q i j bh bw (omega arith) (omega arith) hd held
      ∙ rw (u, v)

  pub rows-filtered : (d : List ℕ) (cols n : ℕ) → cols ≤ b.width → y1 + n ≤ b.y + b.height → put_block d w (inside_tap l w (y1 * w + b.x) (taps_in w q.dir) pri sec (y1 - y0) b.x) (y1 - y0) b.x cols n ≡ put_block d w (λ r c. filtered (plane_of l w h) q (y0 + r) c) (y1 - y0) b.x cols n
  rows-filtered d cols n hc hn = block_same d w _ _ (y1 - y0) b.x cols n (λ r c lo hi left right. tap-inside r c lo (omega arith) left (omega arith))

  -- the same, from what the rows' functions store
  pub stored : (d last : List ℕ) (to at cols n : ℕ) (f g : Strength) → cols ≤ b.width → y1 + n ≤ b.y + b.height → to ≡ (y1 - y0) * w + b.x → at ≡ y1 * w + b.x → f ≡ pri → g ≡ sec → ((y x : ℕ) → to ≡ y * w + x → last ≡ put_block d w (inside_tap l w at (taps_in w q.dir) f g y x) y x cols n) → last ≡ put_block d w (λ r c. filtered (plane_of l w h) q (y0 + r) c) (y1 - y0) b.x cols n
  stored d last to at cols n f g hc hn et ea ef eg k = k (y1 - y0) b.x et ∙ rw (ea, ef, eg) (rows-filtered d cols n hc hn)

-- ---- what the rows' functions require

-- the strengths, from the kernel's
module _ (s s2 d depth : ℕ) where
  pub pri-passed : pri_in (pri_of s d depth).s (pri_of s d depth).sh (pri_of s d depth).w0 ≡ pri_of s d depth
  unfolding pri_in pri_of
  pri-passed = let e : 6 - (4 - s / 2 ^ (depth - 8) % 2) ≡ 2 + s / 2 ^ (depth - 8) % 2 = omega arith in rw e

  pub sec-passed : sec_in (sec_of s2 d).s (sec_of s2 d).sh ≡ sec_of s2 d
  unfolding sec_in sec_of
  sec-passed = refl

  pub pri-range : s ≤ 240 → InRange (pri_of s d depth)
  unfolding pri_of shift_of
  pri-range h = record { s = h; sh = omega arith; w0 = omega arith; w1 = omega arith }

  pub sec-range : s2 ≤ 240 → InRange (sec_of s2 d)
  unfolding sec_of shift_of
  sec-range h = record { s = h; sh = omega arith; w0 = omega arith; w1 = omega arith }

-- n samples, and two rows and two columns more on each side
pub around : (len w at n dir : ℕ) → w ≤ 4096 → dir < 8 → 2 * w + 2 ≤ at → at + n + (2 * w + 2) ≤ len → len ≤ 2 ^ 24 → Around len at n (taps_in w dir)
around len w at n dir hw hd lo hi sm = around-of (taps-reach w dir hw hd) len at n lo hi sm

-- where a block inside the plane lies
module _ (w h x y bw bh len : ℕ) (e : len ≡ w * h) (hw : w ≤ 4096) (hh : h ≤ 4096) (a : Inner w h x y bw bh) where
  small : len ≤ 2 ^ 24
  small = let m : w * h ≤ 4096 * 4096 = mul-le-mul hw hh in omega arith

  above : (i : ℕ) → 2 * w + 2 ≤ y * w + x + i * w
  above i = let m : 2 * w ≤ y * w = mul-le-mul_right w a.top in omega (arith, a.left)

  below : (i n : ℕ) → y + i + n + 2 ≤ h → (y + i + n + 2) * w ≤ len
  below i n k = let m : (y + i + n + 2) * w ≤ h * w = mul-le-mul_right w k in omega (arith, mul_comm w h)

  -- row i of eight
  pub around-row : (dir i : ℕ) → dir < 8 → i < bh → bw ≡ 8 → Around len (y * w + x + i * w) 8 (taps_in w dir)
  around-row dir i hd hi eb = around len w (y * w + x + i * w) 8 dir hw hd (above i) (omega (arith, below i 1 (omega (arith, a.bottom)), a.right)) small

  -- four rows of four, from row i on
  pub around-four : (dir i : ℕ) → dir < 8 → i + 4 ≤ bh → 4 ≤ bw → Around len (y * w + x + i * w) (3 * w + 4) (taps_in w dir)
  around-four dir i hd hi eb = around len w (y * w + x + i * w) (3 * w + 4) dir hw hd (above i) (omega (arith, below i 4 (omega (arith, a.bottom)), a.right)) small

-- a row of k samples in the destination
pub room : (w x y bh n i k : ℕ) → (y + bh) * w ≤ n → i < bh → x + k ≤ w → y * w + x + i * w + k ≤ n
room w x y bh n i k h hi hk =
    let a : y + i + 1 ≤ y + bh = omega arith in
    omega (arith, mul-le-mul_right w a)

-- the test's parts
pub inner-is : (w h x y bw bh : ℕ) → inner_block w h x y bw bh ≡ true → Inner w h x y bw bh
unfolding inner_block
inner-is w h x y bw bh e =
    let a = and_both (leb 2 x && leb 2 y) _ e in
    let b = and_both (leb 2 x) (leb 2 y) a.0 in
    let c = and_both (leb (x + bw + 2) w) (leb (y + bh + 2) h) a.1 in
    record { left = leb-true 2 x b.0; top = leb-true 2 y b.1; right = leb-true (x + bw + 2) w c.0; bottom = leb-true (y + bh + 2) h c.1 }
