-- One sample of a plane without marks: its taps, its kernel by which strengths are 0, and its bounds.
use Rattle.std.specs.Prelude.{◌≡◌, Bool, List, ℕ, ◌≤◌, ◌<◌, eqb, get_or, ℤ, nat_abs, ◌+ℤ◌}
use Rattle.std.proofs.Common.{sym, ap, ◌∙◌, arith}
use Rattle.std.proofs.Math.Bool.{true, false, cond}
use borrow.Author.Tests.{eq-eqb, ne_eqb}
use Rattle.std.specs.Int.Signed.{mag}
use Rattle.cdef_spec.specs.SignedLaws.{size-add}
use Rattle.arith_sample.specs.Sample.{moved_of, over_of, finish_of, free_of}
use Rattle.arith_sample.specs.SampleLaws.{finish-on, free_on, over-is-nat, held-nat}
use Rattle.arith_sample.proofs.Sums16.{size-moved, size-over}
use Rattle.filter_rows.specs.Place.{on_from, back_from}
use Rattle.filter_rows.specs.Pairs.{pair_of}
use Rattle.filter_rows.specs.Sums.{InRange, pri_at, sec_at, low_at, high_at, filtered_at}
use Rattle.filter_rows.proofs.Bounds.{size-pri, size-sec}
use Rattle.filter_limits.specs.declared.Pair.{Pair}
use Rattle.filter_rows.specs.declared.Taps.{Taps}
use Rattle.filter_rows.specs.declared.Strength.{Strength}
use Rattle.filter_kernel.specs.Kernel.{kernel_at}
use Rattle.plane_taps.specs.Plain.{AllLow, Low, Bounded, low_two, high_two, first_of}
use Rattle.plane_rows.specs.Rows.{first_at}

-- ---- by which strengths are 0

module _ (l : List ℕ) (k : ℕ) (t : Taps) (f g : Strength) where
  pub kernel-none : f.s ≡ 0 → g.s ≡ 0 → get_or l k 0 ≡ kernel_at l k t f g
  unfolding kernel_at
  kernel-none e h = rw (eq-eqb f.s 0 e, eq-eqb g.s 0 h)

  pub kernel-sec : f.s ≡ 0 → (g.s ≡ 0 → ⊥) → free_of (get_or l k 0) (sec_at l k t g) ≡ kernel_at l k t f g
  unfolding kernel_at
  kernel-sec e h = rw (eq-eqb f.s 0 e, ne_eqb g.s 0 h)

  pub kernel-pri : (f.s ≡ 0 → ⊥) → g.s ≡ 0 → free_of (get_or l k 0) (pri_at l k t f) ≡ kernel_at l k t f g
  unfolding kernel_at
  kernel-pri e h = rw (ne_eqb f.s 0 e, eq-eqb g.s 0 h)

  pub kernel-both : (f.s ≡ 0 → ⊥) → (g.s ≡ 0 → ⊥) → filtered_at l k t f g ≡ kernel_at l k t f g
  unfolding kernel_at
  kernel-both e h = rw (ne_eqb f.s 0 e, ne_eqb g.s 0 h)

-- ---- the first part of a sample

pub first-low : {p0 p1 : Pair} {c : ℕ} {f : Strength} → Low p0 → Low p1 → c < 16384 → InRange f → Bounded (first_of p0 p1 c f)
unfolding first_of low_two high_two
first-low {p0} {p1} {c} {f} a b h r = record {
  sum = Rattle.plane_taps.specs.PlainLaws.size-pri c f r p0 p1;
  lo = omega arith;
  hi = omega (arith, a.on, a.back, b.on, b.back);
}

-- ---- no tap is marked, and no result

module _ (l : List ℕ) (low : AllLow l) where
  pub below : (k : ℕ) → get_or l k 0 < 16384
  below k = omega (arith, low.all k)

  pub pair-low : (k o : ℕ) → Low (pair_of l k o)
  unfolding pair_of
  pair-low k o = record { on = below (on_from k o); back = below (back_from k o) }

  module _ (k : ℕ) (t : Taps) where
    centre : get_or l k 0 ≡ 16384 → ⊥
    centre e = omega (arith, low.all k)

    -- a result that is not clipped from above
    raised_below : (z : ℤ) (lo : ℕ) → nat_abs z ≤ 11520 → lo ≤ 4096 → mag (over_of (moved_of (get_or l k 0) z) lo) < 16384
    raised_below z lo h g =
        let m : nat_abs (moved_of (get_or l k 0) z) ≤ 16000 = omega (arith, size-moved (get_or l k 0) z, low.all k) in
        omega (arith, ap nat_abs (over-is-nat (moved_of (get_or l k 0) z) lo), size-over (moved_of (get_or l k 0) z) lo 16000 m (omega arith))

    free-below : (z : ℤ) → nat_abs z ≤ 11520 → free_of (get_or l k 0) z < 16384
    free-below z h = rw (free_on (get_or l k 0) z centre) (raised_below z 0 h (omega arith))

    finish-below : (z : ℤ) (lo hi : ℕ) → nat_abs z ≤ 11520 → lo ≤ 4096 → finish_of (get_or l k 0) z lo hi < 16384
    finish-below z lo hi h g =
        rw (finish-on (get_or l k 0) z lo hi centre)
        (omega (arith, ap mag (held-nat (moved_of (get_or l k 0) z) lo hi), raised_below z lo h g))

    module _ (f g : Strength) (rf : InRange f) (rg : InRange g) where
      pub kernel-below : kernel_at l k t f g < 16384
      unfolding kernel_at filtered_at low_at
      kernel-below = go (eqb f.s 0) (eqb g.s 0)
        where
          go : (a b : Bool) → cond a (cond b (get_or l k 0) (free_of (get_or l k 0) (sec_at l k t g))) (cond b (free_of (get_or l k 0) (pri_at l k t f)) (finish_of (get_or l k 0) (pri_at l k t f +ℤ sec_at l k t g) (low_at l k t) (high_at l k t))) < 16384
          go true true = below k
          go true false = free-below _ (omega (arith, size-sec l k t g rg))
          go false true = free-below _ (omega (arith, size-pri l k t f rf))
          go false false = finish-below _ _ _ (omega (arith, size-add (pri_at l k t f) (sec_at l k t g), size-pri l k t f rf, size-sec l k t g rg)) (omega (arith, low.all k))

    -- the first part of a sample
    pub first-bounded : (f : Strength) → InRange f → Bounded (first_at l k t f)
    unfolding first_at
    first-bounded f r = first-low (pair-low k t.p0) (pair-low k t.p1) (below k) r

  -- a result of `arith_sample::raised`, from the sum as it was passed
  pub free-is : (k : ℕ) (z z' : ℤ) (r : ℕ) → z' ≡ z → r ≡ mag (over_of (moved_of (get_or l k 0) z') 0) → r ≡ free_of (get_or l k 0) z
  free-is k z z' r e h = h ∙ rw e (sym (free_on (get_or l k 0) z (λ m. omega (arith, low.all k, m))))
