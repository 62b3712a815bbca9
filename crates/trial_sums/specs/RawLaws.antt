-- Bounds of the sums and the limits, and the sums of a strength of 0.
use Rattle.std.specs.Prelude.{◌≡◌, refl, Bool, true, false, cond, List, ℕ, ◌+◌, ◌-◌, ◌/◌, ◌^◌, ◌≤◌, ◌<◌, min, ltb, pos, neg_ℤ, nat_abs, get_or, take, drop}
use Rattle.std.proofs.Common.{sym, ap, ◌∙◌, arith}
use Rattle.std.proofs.Math.Seq.{get_or-take, get_or-drop}
use Rattle.std.proofs.Math.IntN.{ℤ}
use Rattle.cdef_spec.specs.SignedLaws.{size-add, size_scale}
use Rattle.arith_sample.specs.Bounds.{Held}
use Rattle.arith_sample.specs.Sample.{size_of, con_of}
use Rattle.arith_sample.specs.Upto.{upto, upto-ext, upto-all-of}
use Rattle.filter_limits.specs.declared.Pair.{Pair}
use Rattle.filter_limits.specs.declared.Pairs.{Pairs}
use Rattle.filter_limits.specs.Limits.{HeldPair, HeldPairs, most_of, lowest_of, highest_of}
use Rattle.filter_limits.specs.LimitsLaws.{unmarked-le}
use Rattle.filter_rows.specs.Place.{on_from, back_from}
use Rattle.filter_rows.specs.Sums.{InRange}
use Rattle.filter_rows.specs.declared.Taps.{Taps}
use Rattle.filter_rows.specs.declared.Strength.{Strength}
use Rattle.filter_rows.specs.Pairs.{pair_of, pairs_of, weighed}
use Rattle.filter_rows.specs.PairsLaws.{held-pairs}
use Rattle.plane_taps.specs.Plain.{pair_plain, pri_plain}
use Rattle.plane_taps.specs.PlainLaws.{size-pair, size-pri}
use Rattle.trial_sums.specs.Raw.{side_of, pri_raw, near_raw, sec_raw}

pub held-pair : (l : List ℕ) (k o : ℕ) (p : Pair) → Held l → p ≡ pair_of l k o → HeldPair p
unfolding pair_of
held-pair l k o p h e = rw e (record { on = h.all (on_from k o); back = h.all (back_from k o) })

pub size-side : (q r : Pair) (c s sh : ℕ) → s ≤ 240 → nat_abs (side_of q r c s sh) ≤ 960
unfolding side_of
size-side q r c s sh h = omega (arith, size-add (pair_plain q c s sh) (pair_plain r c s sh), size-pair q c s sh h, size-pair r c s sh h)

module _ (l : List ℕ) (k : ℕ) (o : Taps) where
  pub size-raw : (f : Strength) → InRange f → nat_abs (pri_raw l k o f) ≤ 3840
  unfolding pri_raw
  size-raw f r = size-pri (get_or l k 0) f r (pair_of l k o.p0) (pair_of l k o.p1)

  module _ (s sh : ℕ) (h : s ≤ 240) where
    pub size-near : nat_abs (near_raw l k o s sh) ≤ 1920
    unfolding near_raw
    size-near =
        let z : ℤ = side_of (pair_of l k o.q0) (pair_of l k o.r0) (get_or l k 0) s sh in
        omega (arith, size_scale 2 z, size-side (pair_of l k o.q0) (pair_of l k o.r0) (get_or l k 0) s sh h)

    pub size-sec : nat_abs (sec_raw l k o s sh) ≤ 2880
    unfolding sec_raw
    size-sec = omega (arith, size-near, size-add (near_raw l k o s sh) (side_of (pair_of l k o.q1) (pair_of l k o.r1) (get_or l k 0) s sh), size-side (pair_of l k o.q1) (pair_of l k o.r1) (get_or l k 0) s sh h)

-- ---- a strength of 0 has sums of 0

con-idle : (t c sh : ℕ) → con_of t c 0 sh ≡ pos 0
unfolding con_of size_of
con-idle t c sh =
    let a : min (c - t) (0 - (c - t) / 2 ^ sh) ≡ 0 = omega arith in
    let b : min (t - c) (0 - (t - c) / 2 ^ sh) ≡ 0 = omega arith in
    rw (a, b) (go (ltb t c))
  where
    go : (s : Bool) → cond s (neg_ℤ (pos 0)) (pos 0) ≡ pos 0
    go true = refl
    go false = refl

pair-idle : (p : Pair) (c sh : ℕ) → pair_plain p c 0 sh ≡ pos 0
unfolding pair_plain
pair-idle p c sh = rw (con-idle p.on c sh, con-idle p.back c sh)

raw-idle : (l : List ℕ) (k : ℕ) (o : Taps) (f : Strength) → f.s ≡ 0 → pri_raw l k o f ≡ pos 0
unfolding pri_raw pri_plain weighed
raw-idle l k o f e = rw (e, pair-idle (pair_of l k o.p0) (get_or l k 0) f.sh, pair-idle (pair_of l k o.p1) (get_or l k 0) f.sh) (ap pos (omega arith))

pub pri-idle : (l : List ℕ) (at : ℕ) (o : Taps) (f : Strength) → f.s ≡ 0 → upto (λ (j : ℕ). pos 0) 16 ≡ upto (λ (j : ℕ). pri_raw l (at + j) o f) 16
pri-idle l at o f e = upto-ext _ _ 16 (λ j h. sym (raw-idle l (at + j) o f e))

-- ---- the sixteen that a loop goes over

module _ (l : List ℕ) (at j : ℕ) (h : j < 16) where
  pub sixteen-at : get_or (take (at + 16 - at) (drop at l)) j 0 ≡ get_or l (at + j) 0
  sixteen-at = get_or-take (at + 16 - at) (drop at l) j 0 (omega arith) ∙ get_or-drop at l j 0

  pub sixteen-held : Held l → get_or (take (at + 16 - at) (drop at l)) j 0 ≤ 16384
  sixteen-held held = rw sixteen-at (held.all (at + j))

-- ---- the limits are no more than the mark

pub held-run : (v : List ℕ) (f : ℕ → ℕ) → v ≡ upto f 16 → ((j : ℕ) → f j ≤ 16384) → Held v
held-run v f e h = rw e (record { all = upto-all-of (λ (n : ℕ). n ≤ 16384) f 16 0 h (omega arith) })

most-le : {p : Pair} → HeldPair p → most_of p ≤ 16384
unfolding most_of
most-le {p} h = omega (arith, unmarked-le p.on, unmarked-le p.back, h.on, h.back)

highest-le : (e : Pairs) (c : ℕ) → HeldPairs e → c ≤ 16384 → highest_of e c ≤ 16384
unfolding highest_of
highest-le e c h k = omega (arith, most-le h.p0, most-le h.p1, most-le h.q0, most-le h.q1, most-le h.r0, most-le h.r1)

module _ (l : List ℕ) (at : ℕ) (o : Taps) (h : Held l) where
  pub low_held : (v : List ℕ) → v ≡ upto (λ (j : ℕ). lowest_of (pairs_of l (at + j) o) (get_or l (at + j) 0)) 16 → Held v
  unfolding lowest_of
  low_held v e = held-run v _ e (λ j. omega (arith, h.all (at + j)))

  pub high_held : (v : List ℕ) → v ≡ upto (λ (j : ℕ). highest_of (pairs_of l (at + j) o) (get_or l (at + j) 0)) 16 → Held v
  high_held v e = held-run v _ e (λ j. highest-le (pairs_of l (at + j) o) (get_or l (at + j) 0) (held-pairs l (at + j) o h) (h.all (at + j)))
