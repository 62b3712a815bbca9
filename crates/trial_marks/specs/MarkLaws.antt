-- Where marks count as values, the sums and the sample are those that leave marks out.
use Rattle.std.specs.Prelude.{◌≡◌, List, ◌⊎◌, ℤ, neg_ℤ, ◌+ℤ◌, ◌*ℤ◌}
use Rattle.std.proofs.Math.Path.{sym}
use Rattle.std.proofs.Common.{ap, ◌∙◌, inl, inr, le-div_iff_mul-le, le-ltb, pow_pos}
use Prim.Native.Nat.{ℕ, ◌*◌, ◌/◌, ◌^◌, ◌≤◌, ◌<◌, min}
use Rattle.std.proofs.Math.Decide.{ℕ_discrete}
use native.Mathlib.Omega.{arith}
use Rattle.std.proofs.Math.IntN.{pos, +ℤ_idl, zero-*ℤ, suc_ℤ-*ℤ}
use Rattle.std.proofs.Math.ListN.{get_or}
use Rattle.std.specs.Int.Signed.{mag}
use Rattle.arith_sample.specs.Bounds.{Held}
use Rattle.arith_sample.specs.Sample.{or_centre, size_of, con_of, round_of, moved_of, over_of, under_of, finish_of, free_of}
use Rattle.arith_sample.specs.SampleLaws.{centre-mark, centre-tap, centre-marked, con-below, con-above, held-nat, finish-mark, finish-on, free-mark, free_on}
use Rattle.filter_limits.specs.Limits.{most_of, lowest_of, highest_of}
use Rattle.filter_limits.specs.LimitsLaws.{unmarked-le}
use Rattle.filter_rows.specs.Place.{on_from, back_from, tap_on, tap_back}
use Rattle.filter_rows.specs.Pairs.{pair_of, pairs_of, weighed}
use Rattle.filter_rows.specs.PairsLaws.{con-self, lowest-is, highest-is}
use Rattle.filter_rows.specs.Sums.{pair_at, pri_at, side_at, sec_at, low_at, high_at, filtered_at}
use Rattle.filter_rows.specs.declared.Taps.{Taps}
use Rattle.filter_rows.specs.declared.Strength.{Strength}
use Rattle.plane_taps.specs.Plain.{pair_plain, pri_plain}
use Rattle.trial_sums.specs.Raw.{side_of, pri_raw, near_raw, sec_raw}
use Rattle.trial_sixteen.specs.Sixteen.{raised_raw, clipped_raw}
use Rattle.arith_sample.specs.Bounds.{Marked}
use Rattle.arith_sample.specs.BoundLaws.{marked-held}
use Rattle.trial_marks.specs.Marks.{Quiet, Side}

-- ---- one tap

size-far : (a s sh : ℕ) → Quiet s sh → 12288 ≤ a → size_of a s sh ≡ 0
unfolding size_of
size-far a s sh q h =
    let l : s * 2 ^ sh ≤ a = omega (arith, q.quiet) in
    let m : s ≤ a / 2 ^ sh = (le-div_iff_mul-le (pow_pos sh)).1 l in
    omega arith

module _ (t c s sh : ℕ) (q : Quiet s sh) where
  con-on-mark : t ≡ 16384 → c < 4096 → con_of t c s sh ≡ pos 0
  con-on-mark e h = con-above t c s sh (omega arith) ∙ ap pos (size-far _ s sh q (omega arith))

  con-by-mark : t < 4096 → c ≡ 16384 → con_of t c s sh ≡ pos 0
  con-by-mark h e = con-below t c s sh (omega arith) ∙ ap (λ (n : ℕ). neg_ℤ (pos n)) (size-far _ s sh q (omega arith))

  pub con-marked : (t < 4096) ⊎ (t ≡ 16384) → (c < 4096) ⊎ (c ≡ 16384) → con_of t c s sh ≡ con_of (or_centre t c) c s sh
  con-marked (inl h) (inl k) = rw (centre-tap t c (λ e. omega arith) (λ e. omega arith))
  con-marked (inl h) (inr k) = con-by-mark h k ∙ sym (rw (centre-marked t c (λ e. omega arith) k) (con-self c s sh))
  con-marked (inr h) (inl k) = con-on-mark h k ∙ sym (rw (centre-mark t c h) (con-self c s sh))
  con-marked (inr h) (inr k) = let e : t ≡ c = omega arith in rw (centre-mark t c h, e)

-- ---- the sums

one-scale : (z : ℤ) → pos 1 *ℤ z ≡ z
one-scale z = suc_ℤ-*ℤ (pos 0) z ∙ ap (λ (x : ℤ). x +ℤ z) (zero-*ℤ z) ∙ +ℤ_idl z

module _ (win : List ℕ) (m : Marked win) (k : ℕ) (t : Taps) where
  pair-raw : (o s sh : ℕ) → Quiet s sh → pair_plain (pair_of win k o) (get_or win k 0) s sh ≡ pair_at win k o (get_or win k 0) s sh
  unfolding pair_plain pair_of pair_at tap_on tap_back
  pair-raw o s sh q = rw (con-marked (get_or win (on_from k o) 0) (get_or win k 0) s sh q (m.all (on_from k o)) (m.all k), con-marked (get_or win (back_from k o) 0) (get_or win k 0) s sh q (m.all (back_from k o)) (m.all k))

  pub pri-raw : (f : Strength) → Quiet f.s f.sh → pri_raw win k t f ≡ pri_at win k t f
  unfolding pri_raw pri_plain weighed pri_at
  pri-raw f q = rw (pair-raw t.p0 f.s f.sh q, pair-raw t.p1 f.s f.sh q)

  pub sec-raw : (g : Strength) → Side g → sec_raw win k t g.s g.sh ≡ sec_at win k t g
  unfolding sec_raw near_raw side_of sec_at side_at
  sec-raw g q =
      let s : ℕ = g.s in
      let sh : ℕ = g.sh in
      let e : Quiet g.s g.sh = q.quiet in
      rw (pair-raw t.q0 s sh e, pair-raw t.r0 s sh e, pair-raw t.q1 s sh e, pair-raw t.r1 s sh e, q.w0, q.w1)
      (rw (one-scale (pair_at win k t.q1 (get_or win k 0) s sh +ℤ pair_at win k t.r1 (get_or win k 0) s sh)))

-- ---- a marked centre: the sums are 0

or-mark : (t c : ℕ) → c ≡ 16384 → or_centre t c ≡ c
or-mark t c e = go (ℕ_discrete t 16384)
  where
    go : Dec (t ≡ 16384) → or_centre t c ≡ c
    go (yes h) = centre-mark t c h
    go (no h) = centre-marked t c h e

module _ (win : List ℕ) (k : ℕ) (t : Taps) (e : get_or win k 0 ≡ 16384) where
  pair-off : (o s sh : ℕ) → pair_at win k o (get_or win k 0) s sh ≡ pos 0
  unfolding pair_at tap_on tap_back
  pair-off o s sh = let c : ℕ = get_or win k 0 in
      rw (or-mark (get_or win (on_from k o) 0) c e, or-mark (get_or win (back_from k o) 0) c e, con-self c s sh)

  pub pri-off : (f : Strength) → pri_at win k t f ≡ pos 0
  unfolding pri_at
  pri-off f = rw (pair-off t.p0 f.s f.sh, pair-off t.p1 f.s f.sh) (ap pos (omega arith))

  pub sec-off : (f : Strength) → sec_at win k t f ≡ pos 0
  unfolding sec_at side_at
  sec-off f = rw (pair-off t.q0 f.s f.sh, pair-off t.r0 f.s f.sh, pair-off t.q1 f.s f.sh, pair-off t.r1 f.s f.sh) (ap pos (omega arith))

-- ---- the sample

still : (c : ℕ) → moved_of c (pos 0) ≡ pos c
unfolding moved_of round_of
still c = ap pos (omega arith)

over-still : (c lo : ℕ) → lo ≤ c → over_of (pos c) lo ≡ pos c
unfolding over_of
over-still c lo h = rw (le-ltb c lo h)

raised_is : (win : List ℕ) (k : ℕ) (z : ℤ) → (get_or win k 0 ≡ 16384 → z ≡ pos 0) → raised_raw win k z ≡ free_of (get_or win k 0) z
unfolding raised_raw
raised_is win k z h = go (ℕ_discrete (get_or win k 0) 16384)
  where
    go : Dec (get_or win k 0 ≡ 16384) → mag (over_of (moved_of (get_or win k 0) z) 0) ≡ free_of (get_or win k 0) z
    go (no n) = sym (free_on (get_or win k 0) z n)
    go (yes e) = rw (h e, still (get_or win k 0), over-still (get_or win k 0) 0 (omega arith)) (sym (free-mark (get_or win k 0) (pos 0) e))

-- with a marked centre the least is at most the mark, and the greatest is the mark
module _ (win : List ℕ) (h : Held win) (k : ℕ) (t : Taps) where
  -- its centre and its limits
  abbrev c : ℕ
  c = get_or win k 0

  abbrev lo : ℕ
  lo = lowest_of (pairs_of win k t) c

  abbrev hi : ℕ
  hi = highest_of (pairs_of win k t) c

  least-le : lo ≤ c
  unfolding lowest_of
  least-le = omega arith

  most-le : (o : ℕ) → most_of (pair_of win k o) ≤ 16384
  unfolding most_of pair_of
  most-le o =
      let a : ℕ = get_or win (on_from k o) 0 in
      let b : ℕ = get_or win (back_from k o) 0 in
      omega (arith, unmarked-le a, unmarked-le b, h.all (on_from k o), h.all (back_from k o))

  most-is : c ≡ 16384 → hi ≡ 16384
  unfolding highest_of pairs_of
  most-is e = omega (arith, most-le t.p0, most-le t.p1, most-le t.q0, most-le t.q1, most-le t.r0, most-le t.r1)

  clipped-is : (z : ℤ) → (get_or win k 0 ≡ 16384 → z ≡ pos 0) → clipped_raw win k t z ≡ finish_of (get_or win k 0) z (low_at win k t) (high_at win k t)
  unfolding clipped_raw
  clipped-is z q = go (ℕ_discrete (get_or win k 0) 16384)
    where
      go : Dec (c ≡ 16384) → mag (under_of (over_of (moved_of c z) lo) hi) ≡ finish_of c z (low_at win k t) (high_at win k t)
      go (no n) = rw (lowest-is win k t h n, highest-is win k t h n) (sym (finish-on c z (low_at win k t) (high_at win k t) n))
      go (yes e) =
          let a : min c hi ≡ c = omega (arith, most-is e) in
          rw (q e, still c, held-nat (pos c) lo hi, over-still c lo least-le) (a ∙ sym (finish-mark c (pos 0) (low_at win k t) (high_at win k t) e))

-- ---- the sample by its raw sums

module _ (win : List ℕ) (m : Marked win) (k : ℕ) (t : Taps) where
  pub raised-pri : (f : Strength) → Quiet f.s f.sh → raised_raw win k (pri_raw win k t f) ≡ free_of (get_or win k 0) (pri_at win k t f)
  raised-pri f q = rw (pri-raw win m k t f q) (raised_is win k (pri_at win k t f) (λ e. pri-off win k t e f))

  pub raised-sec : (g : Strength) → Side g → raised_raw win k (sec_raw win k t g.s g.sh) ≡ free_of (get_or win k 0) (sec_at win k t g)
  raised-sec g q = rw (sec-raw win m k t g q) (raised_is win k (sec_at win k t g) (λ e. sec-off win k t e g))

  pub clipped-both : (f g : Strength) → Quiet f.s f.sh → Side g → clipped_raw win k t (pri_raw win k t f +ℤ sec_raw win k t g.s g.sh) ≡ filtered_at win k t f g
  unfolding filtered_at
  clipped-both f g q r =
      rw (pri-raw win m k t f q, sec-raw win m k t g r)
      (clipped-is win (marked-held m) k t (pri_at win k t f +ℤ sec_at win k t g) (λ e. rw (pri-off win k t e f, sec-off win k t e g)))
