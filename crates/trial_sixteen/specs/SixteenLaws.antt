-- Sixteen entries stored from known sums are the raw trial's.
use Rattle.std.specs.Prelude.{◌≡◌, List, [], ℕ, ◌+◌, ◌-◌, ◌≤◌, ◌<◌, ℤ, pos, nat_abs, ◌+ℤ◌, length}
use Rattle.std.proofs.Math.Path.{refl, sym, ap}
use Rattle.std.proofs.Common.{◌∙◌, arith}
use Rattle.std.proofs.Math.ListN.{get_or}
use Rattle.cdef_spec.specs.Standard.{Tap, sample}
use Rattle.cdef_spec.specs.LoopForm.{put_row, put_block}
use Rattle.cdef_spec.proofs.PlaneLaws.{row_same, length-put-row}
use Rattle.arith_sample.specs.Bounds.{Held, Within}
use Rattle.arith_sample.specs.Upto.{upto, get_or-upto, upto-all-of}
use Rattle.filter_limits.specs.Limits.{lowest_of, highest_of}
use Rattle.filter_rows.specs.declared.Taps.{Taps}
use Rattle.filter_rows.specs.declared.Strength.{Strength}
use Rattle.filter_rows.specs.Pairs.{pairs_of}
use Rattle.trial_strengths.specs.declared.Twelve.{Twelve}
use Rattle.trial_runs.specs.Runs.{raised_at, clipped_at, run_tap, raised_tap, clipped_tap}
use Rattle.trial_runs.specs.declared.Limits.{Limits}
use Rattle.trial_sums.specs.Raw.{pri_raw, sec_raw, PriKnown, SecKnown, LimitsKnown}
use Rattle.trial_sums.specs.RawLaws.{size-raw, size-sec, held-run}
use Rattle.trial_sixteen.specs.Sixteen.{raised_raw, clipped_raw, pri_by, sec_by, raw_tap, Strong, PriWithin, first_runs, four_runs}

-- ---- one run

module _ (d l : List ℕ) (from k t : ℕ) (c : List ℕ) (ce : c ≡ upto (λ (j : ℕ). get_or l (from + k + j) 0) 16) where
  -- entry x of the block lies at index from + x
  entry : {A : Type 0} (f : ℕ → A) (v : List A) (x : ℕ) (e : A) → k ≤ x → x < k + 16 → v ≡ upto (λ (j : ℕ). f (from + k + j)) 16 → get_or v (x - k) e ≡ f (from + x)
  entry f v x e lo hi h =
      let i : from + k + (x - k) ≡ from + x = omega arith in
      rw h (get_or-upto (λ (j : ℕ). f (from + k + j)) 16 (x - k) e (omega arith)) ∙ ap f i

  pub run-centre : (r : ℕ → ℕ → Tap) → ((x : ℕ) → r t x ≡ sample (get_or l (from + x) 0)) → put_row d 64 (run_tap c k) t k 16 ≡ put_row d 64 r t k 16
  unfolding run_tap
  run-centre r h = row_same d 64 _ r t k 16 (λ x lo hi. ap sample (entry (λ (i : ℕ). get_or l i 0) c x 0 lo hi ce) ∙ sym (h x))

  pub run-raised : (r : ℕ → ℕ → Tap) (f : ℕ → ℤ) (s : List ℤ) → s ≡ upto (λ (j : ℕ). f (from + k + j)) 16 → ((x : ℕ) → r t x ≡ sample (raised_raw l (from + x) (f (from + x)))) → put_row d 64 (raised_tap c s k) t k 16 ≡ put_row d 64 r t k 16
  unfolding raised_tap raised_at raised_raw
  run-raised r f s e h = row_same d 64 _ r t k 16 (λ x lo hi. rw (entry (λ (i : ℕ). get_or l i 0) c x 0 lo hi ce, entry f s x (pos 0) lo hi e) (sym (h x)))

  pub run-clipped : (r : ℕ → ℕ → Tap) (o : Taps) (f g : ℕ → ℤ) (p s : List ℤ) (b : Limits) → p ≡ upto (λ (j : ℕ). f (from + k + j)) 16 → s ≡ upto (λ (j : ℕ). g (from + k + j)) 16 → LimitsKnown l (from + k) o b
      → ((x : ℕ) → r t x ≡ sample (clipped_raw l (from + x) o (f (from + x) +ℤ g (from + x)))) → put_row d 64 (clipped_tap c p s b.lo b.hi k) t k 16 ≡ put_row d 64 r t k 16
  unfolding clipped_tap clipped_at clipped_raw
  run-clipped r o f g p s b pe se be h = row_same d 64 _ r t k 16 (λ x lo hi.
      rw (
        entry (λ (i : ℕ). get_or l i 0) c x 0 lo hi ce,
        entry f p x (pos 0) lo hi pe,
        entry g s x (pos 0) lo hi se,
        entry (λ (i : ℕ). lowest_of (pairs_of l i o) (get_or l i 0)) b.lo x 0 lo hi be.lo-is,
        entry (λ (i : ℕ). highest_of (pairs_of l i o) (get_or l i 0)) b.hi x 0 lo hi be.hi-is,
      ) (sym (h x)))

-- ---- lengths and bounds

pub long-row : (d e : List ℕ) (f : ℕ → ℕ → Tap) (t k : ℕ) → e ≡ put_row d 64 f t k 16 → length d ≡ 768 → length e ≡ 768
long-row d e f t k q h = rw q (length-put-row 64 f d t k 16 ∙ h)

pub long-first : (d e c : List ℕ) (p : List (List ℤ)) (k : ℕ) → e ≡ first_runs d c p k → length d ≡ 768 → length e ≡ 768
long-first d e c p k q h = rw q (long-row _ _ _ _ _ refl (long-row _ _ _ _ _ refl (long-row _ _ _ _ _ refl (long-row _ _ _ _ _ refl h))))

pub long-four : (d e c : List ℕ) (z s : List ℤ) (p : List (List ℤ)) (lo hi : List ℕ) (t k : ℕ) → e ≡ four_runs d c z s p lo hi t k → length d ≡ 768 → length e ≡ 768
long-four d e c z s p lo hi t k q h = rw q (long-row _ _ _ _ _ refl (long-row _ _ _ _ _ refl (long-row _ _ _ _ _ refl (long-row _ _ _ _ _ refl h))))

pub wider : {l : List ℤ} {m : ℕ} → Within l m → m ≤ 7680 → Within l 7680
wider {l} {m} w h = record { all = λ k. omega (arith, w.all k) }

pub within-run : (v : List ℤ) (f : ℕ → ℤ) (m : ℕ) → v ≡ upto f 16 → ((j : ℕ) → nat_abs (f j) ≤ m) → Within v m
within-run v f m e h = rw e (record { all = upto-all-of (λ (z : ℤ). nat_abs z ≤ m) f 16 (pos 0) h (omega arith) })

module _ (l : List ℕ) (at : ℕ) (o : Taps) where
  pub pri-within : (u : Twelve) (p : List (List ℤ)) → Strong u → PriKnown l at o u.p1 u.p2 u.p3 p → PriWithin p
  pri-within u p r k = record {
    p1 = within-run (get_or p 0 []) _ 3840 k.p1-is (λ j. size-raw l (at + j) o u.p1 r.p1);
    p2 = within-run (get_or p 1 []) _ 3840 k.p2-is (λ j. size-raw l (at + j) o u.p2 r.p2);
    p3 = within-run (get_or p 2 []) _ 3840 k.p3-is (λ j. size-raw l (at + j) o u.p3 r.p3);
  }

  pub sec-within : (s sh : ℕ) (v : List ℤ) → s ≤ 240 → v ≡ upto (λ (j : ℕ). sec_raw l (at + j) o s sh) 16 → Within v 7680
  sec-within s sh v h e = wider (within-run v _ 2880 e (λ j. size-sec l (at + j) o s sh h)) (omega arith)

-- ---- all twelve

pub record Known (l : List ℕ) (at : ℕ) (own zero : Taps) (u : Twelve) (c : List ℕ) (p : List (List ℤ)) (e : Limits) (z s : List (List ℤ)) : Type 0 where
  pub centre : c ≡ upto (λ (j : ℕ). get_or l (at + j) 0) 16
  pub pri : PriKnown l at own u.p1 u.p2 u.p3 p
  pub limits : LimitsKnown l at own e
  pub zero_is : SecKnown l at zero u.s1.s u.s1.sh u.s2.s u.s2.sh z
  pub own_is : SecKnown l at own u.s1.s u.s1.sh u.s2.s u.s2.sh s

-- what is stored is in range: centres and primary sums; with the sums of the first secondary strength; with those of the second
module _ (l : List ℕ) (at : ℕ) (own zero : Taps) (u : Twelve) (c : List ℕ) (p : List (List ℤ)) (e : Limits) (z s : List (List ℤ)) (n : Known l at own zero u c p e z s) (h : Held l) (r : Strong u) where
  pub centres-held : Held c × PriWithin p
  centres-held = (held-run _ _ n.centre (λ j. h.all _), pri-within l at own u p r n.pri)

  pub one-held : Held c × Within (get_or z 0 []) 7680 × Within (get_or s 0 []) 7680 × PriWithin p
  one-held = (centres-held.0, sec-within l at zero _ _ _ r.s1.s n.zero_is.s1-is, sec-within l at own _ _ _ r.s1.s n.own_is.s1-is, centres-held.1)

  pub two-held : Held c × Within (get_or z 1 []) 7680 × Within (get_or s 1 []) 7680 × PriWithin p
  two-held = (centres-held.0, sec-within l at zero _ _ _ r.s2.s n.zero_is.s2-is, sec-within l at own _ _ _ r.s2.s n.own_is.s2-is, centres-held.1)

module _ (l : List ℕ) (from k : ℕ) (own zero : Taps) (u : Twelve) (c : List ℕ) (p : List (List ℤ)) (e : Limits) (z s : List (List ℤ)) (n : Known l (from + k) own zero u c p e z s) where
  tap : ℕ → ℕ → Tap
  tap = raw_tap l from own zero u

  raised : (d : List ℕ) (t : ℕ) (f : Strength) (v : List ℤ) → v ≡ upto (λ (j : ℕ). pri_raw l (from + k + j) own f) 16 → ((x : ℕ) → tap t x ≡ sample (raised_raw l (from + x) (pri_raw l (from + x) own f))) → put_row d 64 (raised_tap c v k) t k 16 ≡ put_row d 64 tap t k 16
  raised d t f v h g = run-raised d l from k t c n.centre tap (λ (i : ℕ). pri_raw l i own f) v h g

  alone : (d : List ℕ) (t : ℕ) (g : Strength) (v : List ℤ) → v ≡ upto (λ (j : ℕ). sec_raw l (from + k + j) zero g.s g.sh) 16 → ((x : ℕ) → tap t x ≡ sample (raised_raw l (from + x) (sec_raw l (from + x) zero g.s g.sh))) → put_row d 64 (raised_tap c v k) t k 16 ≡ put_row d 64 tap t k 16
  alone d t g v h q = run-raised d l from k t c n.centre tap (λ (i : ℕ). sec_raw l i zero g.s g.sh) v h q

  both : (d : List ℕ) (t : ℕ) (f g : Strength) (v y : List ℤ) → v ≡ upto (λ (j : ℕ). pri_raw l (from + k + j) own f) 16 → y ≡ upto (λ (j : ℕ). sec_raw l (from + k + j) own g.s g.sh) 16
      → ((x : ℕ) → tap t x ≡ sample (clipped_raw l (from + x) own (pri_raw l (from + x) own f +ℤ sec_raw l (from + x) own g.s g.sh))) → put_row d 64 (clipped_tap c v y e.lo e.hi k) t k 16 ≡ put_row d 64 tap t k 16
  both d t f g v y h i q = run-clipped d l from k t c n.centre tap own (λ (i : ℕ). pri_raw l i own f) (λ (i : ℕ). sec_raw l i own g.s g.sh) v y e h i n.limits q

  abbrev next4 : List ℕ → ℕ → List ℕ
  next4 d t = put_row (put_row (put_row (put_row d 64 tap t k 16) 64 tap (t + 1) k 16) 64 tap (t + 2) k 16) 64 tap (t + 3) k 16

  from-0 : (d : List ℕ) → first_runs d c p k ≡ next4 d 0
  unfolding tap raw_tap pri_by
  from-0 d =
      rw (run-centre d l from k 0 c n.centre tap (λ x. refl))
      (rw (raised _ 1 u.p1 (get_or p 0 []) n.pri.p1-is (λ x. refl)) (rw (raised _ 2 u.p2 (get_or p 1 []) n.pri.p2-is (λ x. refl)) (raised _ 3 u.p3 (get_or p 2 []) n.pri.p3-is (λ x. refl))))

  from-4 : (d : List ℕ) → four_runs d c (get_or z 0 []) (get_or s 0 []) p e.lo e.hi 4 k ≡ next4 d 4
  unfolding tap raw_tap pri_by sec_by
  from-4 d =
      rw (alone d 4 u.s1 (get_or z 0 []) n.zero_is.s1-is (λ x. refl))
      (rw (both _ 5 u.p1 u.s1 (get_or p 0 []) (get_or s 0 []) n.pri.p1-is n.own_is.s1-is (λ x. refl))
      (rw (both _ 6 u.p2 u.s1 (get_or p 1 []) (get_or s 0 []) n.pri.p2-is n.own_is.s1-is (λ x. refl)) (both _ 7 u.p3 u.s1 (get_or p 2 []) (get_or s 0 []) n.pri.p3-is n.own_is.s1-is (λ x. refl))))

  from-8 : (d : List ℕ) → four_runs d c (get_or z 1 []) (get_or s 1 []) p e.lo e.hi 8 k ≡ next4 d 8
  unfolding tap raw_tap pri_by sec_by
  from-8 d =
      rw (alone d 8 u.s2 (get_or z 1 []) n.zero_is.s2-is (λ x. refl))
      (rw (both _ 9 u.p1 u.s2 (get_or p 0 []) (get_or s 1 []) n.pri.p1-is n.own_is.s2-is (λ x. refl))
      (rw (both _ 10 u.p2 u.s2 (get_or p 1 []) (get_or s 1 []) n.pri.p2-is n.own_is.s2-is (λ x. refl)) (both _ 11 u.p3 u.s2 (get_or p 2 []) (get_or s 1 []) n.pri.p3-is n.own_is.s2-is (λ x. refl))))

  block-12 : (d : List ℕ) → next4 (next4 (next4 d 0) 4) 8 ≡ put_block d 64 tap 0 k 16 12
  unfolding put_block
  block-12 d = refl

  pub twelve-is : (d d4 d8 d12 : List ℕ) → d4 ≡ first_runs d c p k → d8 ≡ four_runs d4 c (get_or z 0 []) (get_or s 0 []) p e.lo e.hi 4 k → d12 ≡ four_runs d8 c (get_or z 1 []) (get_or s 1 []) p e.lo e.hi 8 k → d12 ≡ put_block d 64 (raw_tap l from own zero u) 0 k 16 12
  unfolding tap
  twelve-is d d4 d8 d12 e4 e8 e12 = (e12 ∙ from-8 d8) ∙ rw (e8 ∙ from-4 d4, e4 ∙ from-0 d) (block-12 d)
