-- Laws of one sample without marks: it is the sample that the window's kernel gives.
use Rattle.std.specs.Prelude.{◌≡◌, refl, Bool, true, false, ℕ, ◌*◌, ◌≤◌, ◌<◌, min, max, List, ℤ, pos, ◌+ℤ◌, ◌*ℤ◌, ◌≢◌, slice_index, unsigned_abs}
use Rattle.std.proofs.Common.{mul-le-mul, arith}
use Rattle.arith_sample.specs.Sample.{con_of}
use Rattle.arith_sample.specs.SampleLaws.{size-con, centre-tap}
use Rattle.filter_rows.specs.Place.{on_from, back_from, tap_on, tap_back}
use Rattle.cdef_spec.specs.SignedLaws.{size-add, size_scale}
use Rattle.filter_rows.specs.Sums.{InRange, pair_at, low_pair, high_pair, pri_at, side_at, sec_at, low_at, high_at, filtered_at}
use Rattle.filter_rows.specs.Pairs.{pair_of, weighed}
use Rattle.filter_limits.specs.declared.Pair.{Pair}
use Rattle.filter_limits.specs.Limits.{HeldPair, further_of}
use Rattle.filter_rows.specs.declared.Taps.{Taps}
use Rattle.filter_rows.specs.declared.Strength.{Strength}
use Rattle.plane_taps.specs.Plain.{AllLow, Low, pair_plain, pri_plain, sec_plain, low_two, high_two, limit_two, first_of, last_of}

-- ---- the sample

three-low : (a b e c : ℕ) → min (min a c) (min b e) ≡ min (min a b) (min e c)
three-low a b e c = omega arith

three-high : (a b e c : ℕ) → max (max a c) (max b e) ≡ max (max a b) (max e c)
three-high a b e c = omega arith

module _ (l : List ℕ) (low : AllLow l) (k : ℕ) (t : Taps) where
  not-mark : (j : ℕ) → slice_index l j ≢ 16384
  not-mark j e = omega (arith, low.all j)

  on-is : (o : ℕ) → tap_on l k o (slice_index l k) ≡ slice_index l (on_from k o)
  unfolding tap_on
  on-is o = centre-tap _ _ (not-mark (on_from k o)) (not-mark k)

  back_is : (o : ℕ) → tap_back l k o (slice_index l k) ≡ slice_index l (back_from k o)
  unfolding tap_back
  back_is o = centre-tap _ _ (not-mark (back_from k o)) (not-mark k)

  pair_is : (o s sh : ℕ) → pair_plain (pair_of l k o) (slice_index l k) s sh ≡ pair_at l k o (slice_index l k) s sh
  unfolding pair_plain pair_of pair_at
  pair_is o s sh = rw (on-is o, back_is o)

  pub pri-plain : (f : Strength) → pri_plain (pair_of l k t.p0) (pair_of l k t.p1) (slice_index l k) f ≡ pri_at l k t f
  unfolding pri_plain weighed pri_at
  pri-plain f = rw (pair_is t.p0 f.s f.sh, pair_is t.p1 f.s f.sh)

  pub sec-plain : (f : Strength) → sec_plain (pair_of l k t.q0) (pair_of l k t.q1) (pair_of l k t.r0) (pair_of l k t.r1) (slice_index l k) f ≡ sec_at l k t f
  unfolding sec_plain weighed sec_at side_at
  sec-plain f = rw (pair_is t.q0 f.s f.sh, pair_is t.q1 f.s f.sh, pair_is t.r0 f.s f.sh, pair_is t.r1 f.s f.sh)

  low-is : (o u : ℕ) → low_two (pair_of l k o) (pair_of l k u) ≡ min (low_pair l k o (slice_index l k)) (low_pair l k u (slice_index l k))
  unfolding low_two pair_of low_pair
  low-is o u = rw (on-is o, back_is o, on-is u, back_is u)

  high_is : (o u : ℕ) → high_two (pair_of l k o) (pair_of l k u) ≡ max (high_pair l k o (slice_index l k)) (high_pair l k u (slice_index l k))
  unfolding high_two pair_of high_pair
  high_is o u = rw (on-is o, back_is o, on-is u, back_is u)

  lowest : min (min (low_two (pair_of l k t.p0) (pair_of l k t.p1)) (slice_index l k)) (min (low_two (pair_of l k t.q0) (pair_of l k t.q1)) (low_two (pair_of l k t.r0) (pair_of l k t.r1))) ≡ low_at l k t
  unfolding low_at
  lowest = rw (low-is t.p0 t.p1, low-is t.q0 t.q1, low-is t.r0 t.r1) (three-low _ _ _ _)

  highest : max (max (high_two (pair_of l k t.p0) (pair_of l k t.p1)) (slice_index l k)) (max (high_two (pair_of l k t.q0) (pair_of l k t.q1)) (high_two (pair_of l k t.r0) (pair_of l k t.r1))) ≡ high_at l k t
  unfolding high_at
  highest = rw (high_is t.p0 t.p1, high_is t.q0 t.q1, high_is t.r0 t.r1) (three-high _ _ _ _)

  -- the sample filtered with both strengths
  pub both-plain : (f g : Strength) → last_of (first_of (pair_of l k t.p0) (pair_of l k t.p1) (slice_index l k) f) (pair_of l k t.q0) (pair_of l k t.q1) (pair_of l k t.r0) (pair_of l k t.r1) (slice_index l k) g ≡ filtered_at l k t f g
  unfolding last_of first_of filtered_at
  both-plain f g = rw (pri-plain f, sec-plain g, lowest, highest)

-- ---- the limits alike

pub limit-is : (b : Bool) (p q : Pair) → further_of b (further_of b p.on p.back) (further_of b q.on q.back) ≡ limit_two b p q
unfolding further_of limit_two low_two high_two
limit-is false p q = refl
limit-is true p q = refl

pub limit-low : (b : Bool) (p q : Pair) → Low p → Low q → limit_two b p q < 16384
unfolding limit_two low_two high_two
limit-low false p q h g = omega (arith, h.on)
limit-low true p q h g = omega (arith, h.on, h.back, g.on, g.back)

-- ---- bounds of the sums

pub low_held : {p : Pair} → Low p → HeldPair p
low_held a = record { on = omega (arith, a.on); back = omega (arith, a.back) }

pub size-pair : (p : Pair) (c s sh : ℕ) → s ≤ 240 → unsigned_abs (pair_plain p c s sh) ≤ 480
unfolding pair_plain
size-pair p c s sh h = omega (arith, size-add (con_of p.on c s sh) (con_of p.back c s sh), size-con p.on c s sh, size-con p.back c s sh)

-- two weighted sums
size-weighed : (a b : ℤ) (m : ℕ) (f : Strength) → InRange f → unsigned_abs a ≤ m → unsigned_abs b ≤ m → unsigned_abs (weighed a b f) ≤ 8 * m
unfolding weighed
size-weighed a b m f r ha hb =
    let p : f.w0 * unsigned_abs a ≤ 4 * m = mul-le-mul r.w0 ha in
    let q : f.w1 * unsigned_abs b ≤ 4 * m = mul-le-mul r.w1 hb in
    omega (arith, size-add (pos f.w0 *ℤ a) (pos f.w1 *ℤ b), size_scale f.w0 a, size_scale f.w1 b)

module _ (c : ℕ) (f : Strength) (r : InRange f) where
  of : (p : Pair) → unsigned_abs (pair_plain p c f.s f.sh) ≤ 480
  of p = size-pair p c f.s f.sh r.s

  two : (p q : Pair) → unsigned_abs (pair_plain p c f.s f.sh +ℤ pair_plain q c f.s f.sh) ≤ 960
  two p q = omega (arith, size-add (pair_plain p c f.s f.sh) (pair_plain q c f.s f.sh), of p, of q)

  pub size-pri : (p0 p1 : Pair) → unsigned_abs (pri_plain p0 p1 c f) ≤ 3840
  unfolding pri_plain
  size-pri p0 p1 = size-weighed _ _ 480 f r (of p0) (of p1)

  pub size-sec : (q0 q1 r0 r1 : Pair) → unsigned_abs (sec_plain q0 q1 r0 r1 c f) ≤ 7680
  unfolding sec_plain
  size-sec q0 q1 r0 r1 = size-weighed _ _ 960 f r (two q0 r0) (two q1 r1)
