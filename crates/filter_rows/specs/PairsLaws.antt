-- Laws of the taps as the window holds them: where the centre is not marked, they give the sums and the limits of `Sums`.
use Rattle.std.specs.Prelude.{◌≡◌, ℕ, ◌≤◌, min, max, Bool, true, false, cond, List, ℤ, pos, ◌+ℤ◌, ◌==◌, ◌≢◌, slice_index, slice_index_or}
use Rattle.std.proofs.Math.Path.{refl, sym}
use Rattle.std.proofs.Common.{ap, ◌∙◌}
use native.Mathlib.Omega.{arith}
use borrow.Author.Tests.{eqb-true, eqb-false, eq-eqb, ne_eqb}
use Rattle.std.specs.Int.Signed.{mag}
use Rattle.arith_sample.specs.Sample.{or_centre, size_of, con_of, moved_of, over_of, finish_of, free_of}
use Rattle.arith_sample.specs.SampleLaws.{con-above, finish-mark}
use Rattle.arith_sample.specs.Bounds.{Held}
use Rattle.filter_rows.specs.Place.{on_from, back_from, tap_on, tap_back}
use Rattle.filter_rows.specs.Sums.{pair_at, low_pair, high_pair, pri_at, side_at, sec_at, alone_at, low_at, high_at, filtered_at}
use Rattle.filter_rows.specs.Pairs.{pair_of, pairs_of, con_tap, pair_sum, weighed, pri_sum, sec_sum, alone_sum}
use Rattle.filter_limits.specs.Limits.{HeldPair, HeldPairs, least_of, unmarked_of, most_of, lowest_of, highest_of}
use Rattle.filter_rows.specs.declared.Taps.{Taps}
use Rattle.filter_rows.specs.declared.Strength.{Strength}

pub con-self : (c s sh : ℕ) → con_of c c s sh ≡ pos 0
unfolding size_of
con-self c s sh = con-above c c s sh (omega arith) ∙ ap pos (omega arith)

pub con-mark : (t c s sh : ℕ) → t ≡ 16384 → con_tap t c s sh ≡ pos 0
unfolding con_tap
con-mark t c s sh e = rw (eq-eqb t 16384 e)

pub con-tap : (t c s sh : ℕ) → (t ≢ 16384) → con_tap t c s sh ≡ con_of t c s sh
unfolding con_tap
con-tap t c s sh n = rw (ne_eqb t 16384 n)

-- the same limits together with a centre, as records, so that the numbers can be inferred
record Low (c a b : ℕ) : Type 0 where
  low : min a c ≡ min b c

record High (c a b : ℕ) : Type 0 where
  high : max a c ≡ max b c

low-each : (a b c : ℕ) → min (min a b) c ≡ min (min a c) (min b c)
low-each a b c = omega arith

high-each : (a b c : ℕ) → max (max a b) c ≡ max (max a c) (max b c)
high-each a b c = omega arith

low-two : {c a b a' b' : ℕ} → Low c a a' → Low c b b' → Low c (min a b) (min a' b')
low-two {c} {a} {b} {a'} {b'} p q = record { low = low-each a b c ∙ rw (p.low, q.low) (sym (low-each a' b' c)) }

high-two : {c a b a' b' : ℕ} → High c a a' → High c b b' → High c (max a b) (max a' b')
high-two {c} {a} {b} {a'} {b'} p q = record { high = high-each a b c ∙ rw (p.high, q.high) (sym (high-each a' b' c)) }

low-last : {c a b a' b' : ℕ} → Low c a a' → Low c b b' → min a (min b c) ≡ min a' (min b' c)
low-last p q = omega (arith, p.low, q.low)

high-last : {c a b a' b' : ℕ} → High c a a' → High c b b' → max a (max b c) ≡ max a' (max b' c)
high-last p q = omega (arith, p.high, q.high)

-- one tap
module _ (t c : ℕ) (hc : c ≤ 16384) (n : c ≡ 16384 → ⊥) where
  con-is : (s sh : ℕ) → con_tap t c s sh ≡ con_of (or_centre t c) c s sh
  unfolding con_tap or_centre
  con-is s sh = rw (ne_eqb c 16384 n) (go (t == 16384))
    where
      go : (b : Bool) → cond b (pos 0) (con_of t c s sh) ≡ con_of (cond b c t) c s sh
      go true = sym (con-self c s sh)
      go false = refl

  low-is : Low c t (or_centre t c)
  unfolding or_centre
  low-is = record { low = rw (ne_eqb c 16384 n) (go (t == 16384) refl) }
    where
      go : (b : Bool) → (t == 16384) ≡ b → min t c ≡ min (cond b c t) c
      go true e = omega (arith, eqb-true t 16384 e)
      go false e = refl

  high_is : High c (unmarked_of t) (or_centre t c)
  unfolding or_centre unmarked_of
  high_is = record { high = rw (ne_eqb c 16384 n) (go (t == 16384)) }
    where
      go : (b : Bool) → max (cond b 0 t) c ≡ max (cond b c t) c
      go true = omega arith
      go false = refl

-- a marked centre is kept, whatever its sum is
kept : (c : ℕ) (y z : ℤ) → ((c ≢ 16384) → y ≡ z) → free_of c y ≡ free_of c z
unfolding free_of
kept c y z h = go (c == 16384) refl
  where
    go : (b : Bool) → (c == 16384) ≡ b → cond b c (mag (over_of (moved_of c y) 0)) ≡ cond b c (mag (over_of (moved_of c z) 0))
    go true m = refl
    go false m = rw (h (eqb-false c 16384 m))

-- a pair
module _ (w : List ℕ) (k c : ℕ) (hc : c ≤ 16384) (n : c ≡ 16384 → ⊥) (o : ℕ) where
  sum_is : (s sh : ℕ) → pair_sum (pair_of w k o) c s sh ≡ pair_at w k o c s sh
  unfolding pair_sum pair_of pair_at tap_on tap_back
  sum_is s sh = rw (con-is (slice_index w (on_from k o)) c hc n s sh, con-is (slice_index w (back_from k o)) c hc n s sh)

  least-is : Low c (least_of (pair_of w k o)) (low_pair w k o c)
  unfolding least_of pair_of low_pair tap_on tap_back
  least-is = low-two (low-is (slice_index w (on_from k o)) c hc n) (low-is (slice_index w (back_from k o)) c hc n)

  most-is : High c (most_of (pair_of w k o)) (high_pair w k o c)
  unfolding most_of pair_of high_pair tap_on tap_back
  most-is = high-two (high_is (slice_index w (on_from k o)) c hc n) (high_is (slice_index w (back_from k o)) c hc n)

module _ (w : List ℕ) (k : ℕ) (t : Taps) (h : Held w) where
  held : (o : ℕ) → HeldPair (pair_of w k o)
  unfolding pair_of
  held o = record { on = h.all (on_from k o); back = h.all (back_from k o) }

  pub held-pairs : HeldPairs (pairs_of w k t)
  unfolding pairs_of
  held-pairs = record { p0 = held t.p0; p1 = held t.p1; q0 = held t.q0; q1 = held t.q1; r0 = held t.r0; r1 = held t.r1 }

  module _ (n : slice_index_or w k 0 ≡ 16384 → ⊥) where
    sum : (o s sh : ℕ) → pair_sum (pair_of w k o) (slice_index w k) s sh ≡ pair_at w k o (slice_index w k) s sh
    sum = sum_is w k (slice_index w k) (h.all k) n

    least : (o : ℕ) → Low (slice_index w k) (least_of (pair_of w k o)) (low_pair w k o (slice_index w k))
    least = least-is w k (slice_index w k) (h.all k) n

    most : (o : ℕ) → High (slice_index w k) (most_of (pair_of w k o)) (high_pair w k o (slice_index w k))
    most = most-is w k (slice_index w k) (h.all k) n

    pri-is : (f : Strength) → pri_sum (pairs_of w k t) (slice_index w k) f ≡ pri_at w k t f
    unfolding pri_sum pairs_of weighed pri_at
    pri-is f = rw (sum t.p0 f.s f.sh, sum t.p1 f.s f.sh)

    sec-is : (f : Strength) → sec_sum (pairs_of w k t) (slice_index w k) f ≡ sec_at w k t f
    unfolding sec_sum pairs_of weighed sec_at side_at
    sec-is f = rw (sum t.q0 f.s f.sh, sum t.q1 f.s f.sh, sum t.r0 f.s f.sh, sum t.r1 f.s f.sh)

    pub lowest-is : lowest_of (pairs_of w k t) (slice_index w k) ≡ low_at w k t
    unfolding lowest_of pairs_of low_at
    lowest-is = low-last (low-two (low-two (least t.p0) (least t.p1)) (low-two (least t.q0) (least t.q1))) (low-two (least t.r0) (least t.r1))

    pub highest-is : highest_of (pairs_of w k t) (slice_index w k) ≡ high_at w k t
    unfolding highest_of pairs_of high_at
    highest-is = high-last (high-two (high-two (most t.p0) (most t.p1)) (high-two (most t.q0) (most t.q1))) (high-two (most t.r0) (most t.r1))

  -- the filtered sample; a marked centre is kept, whatever the sums are
  pub both_is : (f g : Strength) → let e = pairs_of w k t in
      let c = slice_index_or w k 0 in
      finish_of c (pri_sum e c f +ℤ sec_sum e c g) (lowest_of e c) (highest_of e c) ≡ filtered_at w k t f g
  unfolding filtered_at
  both_is f g = go (slice_index w k == 16384) refl
    where
      go : (b : Bool) → (slice_index w k == 16384) ≡ b → let e = pairs_of w k t in
          let c = slice_index_or w k 0 in
          finish_of c (pri_sum e c f +ℤ sec_sum e c g) (lowest_of e c) (highest_of e c) ≡ finish_of c (pri_at w k t f +ℤ sec_at w k t g) (low_at w k t) (high_at w k t)
      go true m = let e : slice_index_or w k 0 ≡ 16384 = eqb-true (slice_index w k) 16384 m in
          finish-mark _ _ _ _ e ∙ sym (finish-mark _ _ _ _ e)
      go false m = let n : slice_index_or w k 0 ≡ 16384 → ⊥ = eqb-false (slice_index w k) 16384 m in
          rw (pri-is n f, sec-is n g, lowest-is n, highest-is n)

  -- the sample filtered with one strength alone, likewise
  module _ (f : Strength) where
    pri-free : free_of (slice_index w k) (pri_sum (pairs_of w k t) (slice_index w k) f) ≡ free_of (slice_index w k) (pri_at w k t f)
    pri-free = kept (slice_index w k) _ _ (λ n. pri-is n f)

    sec-free : free_of (slice_index w k) (sec_sum (pairs_of w k t) (slice_index w k) f) ≡ free_of (slice_index w k) (sec_at w k t f)
    sec-free = kept (slice_index w k) _ _ (λ n. sec-is n f)

    pub alone-free : (b : Bool) → free_of (slice_index w k) (alone_sum b (pairs_of w k t) (slice_index w k) f) ≡ free_of (slice_index w k) (alone_at b w k t f)
    unfolding alone_sum alone_at
    alone-free true = sec-free
    alone-free false = pri-free
