-- THE AGREEMENT: where the three calls accept their input, the measured totals agree with the tried ones, for every list of pairs, for two lists, and for any list that keeps the laws of pairs.
use Rattle.std.specs.Prelude.{◌≡◌, Bool, false, cond, ℕ, ◌*◌, ◌≤◌, ◌<◌, leb, eqb, ℤ, length, Option}
use Rattle.std.proofs.Math.Path.{refl, sym, subst}
use Rattle.std.proofs.Common.{◌∙◌, arith}
use Rattle.std.proofs.Math.Bool.{true}
use mathlib.Core.List.{List, []}
use borrow.Author.Tests.{eq-eqb, eqb-true, le-leb}
use Rattle.cdef_spec.specs.declared.SignalledDamping.{SignalledDamping}
use Rattle.cdef_spec.specs.declared.UnitPair.{UnitPair}
use Rattle.cdef_spec.specs.declared.Visible.{Visible}
use Rattle.cdef_spec.specs.Words.{every}
use Rattle.cdef_spec.specs.WordsLaws.{every-at, and_both}
use Rattle.cdef_spec.specs.Document01.{is_trial_pair}
use Rattle.cdef_spec.specs.Picture.{PlaneKind, luma, chroma, Picture, plane_width, plane_height, units, pair_at}
use Rattle.cdef_spec.specs.Answers.{taken, nothing, result_of}
use Rattle.cdef_spec.specs.Questions.{full_planes, picture_listed}
use Rattle.cdef_spec.specs.QuestionLaws.{questions-yes}
use Rattle.cdef_spec.specs.FrameCalls.{trying_no, trying_outcome, ApplyingOutcome, applying_no, applying_outcome, applying_lists_no, pairs_of, applying_lists_outcome, measuring_no, measuring_outcome}
use Rattle.cdef_spec.proofs.OutcomeLaws.{twin-is}
use Rattle.cdef_spec.specs.Demand3.{off, other_kind, with_directions, Agrees, own_input_passes}
use Rattle.cdef_spec.proofs.Agreement.{agreement, own-from-accepted}
use Rattle.cdef_pairs.specs.PairLaws.{few-units, twin-no}
use Rattle.cdef_agree.specs.Agree.{by_trying, by_pair_test, by_applying, by_measuring, agreed as totals_agree, rejected, agreement_number, is_agreed, AgreeOutcome, agree_with, agree_outcome, agree_lists_outcome}
use Rattle.agree_parts.specs.Parts.{trial_pairs, copied}

pub never : {A : Type 0} → false ≡ true → A
never e = let o : ◌≡◌ {A = ℕ} 0 1 = cc in absurd (omega arith)

-- ---- what applying's acceptance says of its lists

module _ (q : Picture) (d : Option SignalledDamping) (snapshot : List ℕ) (ps : List UnitPair) (dst : List ℕ) (z : applying_no q d snapshot ps dst ≡ 0) where
  same-long : length dst ≡ length snapshot
  unfolding applying_no full_planes
  same-long =
      let t = questions-yes q _ _ _ _ _ z in
      let a = and_both (eqb (length snapshot) (plane_width q * plane_height q)) _ t.four in
      let b = and_both (eqb (length dst) (plane_width q * plane_height q)) true a.1 in
      eqb-true _ _ b.0 ∙ sym (eqb-true _ _ a.0)

  -- one pair per unit, at most 4,096
  pairs-long : (length ps ≡ units q) × (units q ≤ 4096)
  unfolding applying_no
  pairs-long =
      let t = questions-yes q _ _ _ _ _ z in
      let a = and_both (picture_listed q) (eqb (length ps) (units q)) t.seven in
      (eqb-true _ _ a.1, few-units q t.two)

-- a destination that applying accepts holds the snapshot
copy_is : (q : Picture) (d : Option SignalledDamping) (snapshot : List ℕ) (ps : List UnitPair) (dst : List ℕ) → applying_no q d snapshot ps (copied snapshot dst) ≡ 0 → copied snapshot dst ≡ snapshot
unfolding copied
copy_is q d snapshot ps dst = go (eqb (length dst) (length snapshot)) refl
  where
    go : (b : Bool) → eqb (length dst) (length snapshot) ≡ b → applying_no q d snapshot ps (cond b snapshot dst) ≡ 0 → cond b snapshot dst ≡ snapshot
    go true e z = refl
    go false e z = never (sym e ∙ eq-eqb _ _ (same-long q d snapshot ps dst z))

trials-so : (ps : List UnitPair) (n : ℕ) → trial_pairs ps ≡ true → length ps ≡ n → n ≤ 4096 → (u : ℕ) → u < n → is_trial_pair (pair_at ps u) ≡ true
unfolding trial_pairs
trials-so ps n t e b u h =
    let few : leb (length ps) 4096 ≡ true = le-leb (length ps) 4096 (omega arith) in
    let all : every (length ps) (λ u. is_trial_pair (pair_at ps u)) ≡ true = rw few at t in
    every-at (length ps) (λ u. is_trial_pair (pair_at ps u)) all u (omega arith)

-- ---- the calls' answers

-- a picture's own variances
own_vars : PlaneKind → List ℕ
own_vars (luma vars) = vars
own_vars (chroma sx sy) = []

own-kind : (k : PlaneKind) → other_kind k (own_vars k) ≡ k
unfolding other_kind own_vars
own-kind (luma vars) = refl
own-kind (chroma sx sy) = refl

own : (q : Picture) → with_directions q q.dirs (own_vars q.kind) ≡ q
unfolding with_directions
own q = rw (own-kind q.kind)

module _ (q : Picture) (d : Option SignalledDamping) (v : Visible) (snapshot original : List ℕ) where
  tried-yes : (tried : List ℤ) → trying_no q d v snapshot original tried ≡ 0 → (trying_outcome q d v snapshot original tried).answer ≡ taken nothing
  unfolding trying_outcome result_of
  tried-yes tried z = rw z

  applied-yes : (ps : List UnitPair) (dst : List ℕ) → applying_no q d snapshot ps dst ≡ 0 → (applying_outcome q d snapshot ps dst).answer ≡ taken nothing
  unfolding applying_outcome result_of
  applied-yes ps dst z = rw z

  measured-yes : (plane : List ℕ) (measured : List ℤ) (scratch : List ℕ) → measuring_no q d v plane original off measured scratch ≡ 0 → (measuring_outcome q d v plane original off measured scratch).answer ≡ taken nothing
  unfolding measuring_outcome result_of
  measured-yes plane measured scratch z = rw z

  -- demand 3, where applying writes into the snapshot's copy
  agrees_on : (ps : List UnitPair) (tried measured : List ℤ) (scratch : List ℕ) → trying_no q d v snapshot original tried ≡ 0 → trial_pairs ps ≡ true
      → applying_no q d snapshot ps snapshot ≡ 0 → measuring_no q d v (applying_outcome q d snapshot ps snapshot).plane original off measured scratch ≡ 0
      → Agrees q ps (trying_outcome q d v snapshot original tried).totals (measuring_outcome q d v (applying_outcome q d snapshot ps snapshot).plane original off measured scratch).totals
  agrees_on ps tried measured scratch zt t za zm =
      let l = pairs-long q d snapshot ps snapshot za in
      let plane : List ℕ = (applying_outcome q d snapshot ps snapshot).plane in
      let accepts : own_input_passes (with_directions q q.dirs (own_vars q.kind)) d measured scratch ≡ true =
      rw (own q) (own-from-accepted q d v plane original measured scratch (measured-yes plane measured scratch zm)) in
      let both = agreement q v snapshot original ps d d d tried measured q.dirs (own_vars q.kind) scratch refl (trials-so ps (units q) t l.0 l.1) (tried-yes tried zt) (applied-yes ps snapshot za) accepts in
      rw (own q) at both.1

-- ---- what an agreement says of the three calls

yes-only : (a b c e : Bool) (i j k : ℕ) → is_agreed (cond a (cond b (cond c (cond e totals_agree (rejected by_measuring i)) (rejected by_applying j)) (rejected by_pair_test 8)) (rejected by_trying k)) ≡ true → (a ≡ true) × (b ≡ true) × (c ≡ true) × (e ≡ true)
unfolding is_agreed
yes-only true true true true i j k h = (refl, refl, refl, refl)
yes-only true true true false i j k h = never h
yes-only true true false e i j k h = never h
yes-only true false c e i j k h = never h
yes-only false b c e i j k h = never h

-- the error code of an agreement, by the four tests
number-of : (a b c e : Bool) (i j k : ℕ) → (e ≡ true → i ≡ 0) → agreement_number ((cond a (cond b (cond c (cond e totals_agree (rejected by_measuring i)) (rejected by_applying j)) (rejected by_pair_test 8)) (rejected by_trying k))) ≡ cond a (cond b (cond c i j) 8) k
unfolding agreement_number
number-of true true true true i j k h = sym (h refl)
number-of true true true false i j k h = refl
number-of true true false e i j k h = refl
number-of true false c e i j k h = refl
number-of false b c e i j k h = refl

module _ (trial : Bool) (asked : List ℕ → ℕ) (applied : List ℕ → ApplyingOutcome) (q : Picture) (d : Option SignalledDamping) (v : Visible) (snapshot original : List ℕ) (tried : List ℤ) (dst : List ℕ) (measured : List ℤ) (scratch : List ℕ) where
  abbrev out : AgreeOutcome
  out = agree_with trial asked applied q d v snapshot original tried dst measured scratch

  abbrev plane : List ℕ
  plane = (applied (copied snapshot dst)).plane

  pub all_yes : is_agreed out.answer ≡ true → (trying_no q d v snapshot original tried ≡ 0) × (trial ≡ true) × (asked (copied snapshot dst) ≡ 0) × (measuring_no q d v plane original off measured scratch ≡ 0)
  unfolding agree_with
  all_yes h =
      let y = yes-only (eqb (trying_no q d v snapshot original tried) 0) trial (eqb (asked (copied snapshot dst)) 0) (eqb (measuring_no q d v plane original off measured scratch) 0) _ _ _ h in
      (eqb-true _ _ y.0, y.1, eqb-true _ _ y.2, eqb-true _ _ y.3)

  -- the error code: trying's; else 8 for a pair that is none of the twelve; else applying's; else measuring's, 0 where the totals agree
  abbrev first : ℕ
  first = trying_no q d v snapshot original tried

  abbrev second : ℕ
  second = asked (copied snapshot dst)

  abbrev last : ℕ
  last = measuring_no q d v plane original off measured scratch

  pub number_is : agreement_number out.answer ≡ cond (eqb first 0) (cond trial (cond (eqb second 0) last second) 8) first
  unfolding agree_with
  number_is = number-of (eqb first 0) trial (eqb second 0) (eqb last 0) last second first (eqb-true last 0)

  totals-are : trying_no q d v snapshot original tried ≡ 0 → trial ≡ true → asked (copied snapshot dst) ≡ 0
      → (out.tried ≡ (trying_outcome q d v snapshot original tried).totals) × (out.measured ≡ (measuring_outcome q d v plane original off measured scratch).totals)
  unfolding agree_with
  totals-are z t a = rw (z, t, a) (refl, refl)

-- applying matters only by its error code and its outcome for the copy
pub with-same : (trial trial' : Bool) (asked asked' : List ℕ → ℕ) (applied applied' : List ℕ → ApplyingOutcome) (q : Picture) (d : Option SignalledDamping) (v : Visible) (snapshot original : List ℕ) (tried : List ℤ) (dst : List ℕ) (measured : List ℤ) (scratch : List ℕ)
    → trial ≡ trial' → asked (copied snapshot dst) ≡ asked' (copied snapshot dst) → applied (copied snapshot dst) ≡ applied' (copied snapshot dst)
    → agree_with trial asked applied q d v snapshot original tried dst measured scratch ≡ agree_with trial' asked' applied' q d v snapshot original tried dst measured scratch
unfolding agree_with
with-same trial trial' asked asked' applied applied' q d v snapshot original tried dst measured scratch e f g = rw (e, f, g)

module _ (q : Picture) (d : Option SignalledDamping) (v : Visible) (snapshot original : List ℕ) where
  -- for every list of pairs
  pub agreed : (ps : List UnitPair) (tried : List ℤ) (dst : List ℕ) (measured : List ℤ) (scratch : List ℕ) → is_agreed (agree_outcome q d v snapshot original ps tried dst measured scratch).answer ≡ true
      → Agrees q ps (agree_outcome q d v snapshot original ps tried dst measured scratch).tried (agree_outcome q d v snapshot original ps tried dst measured scratch).measured
  unfolding agree_outcome
  agreed ps tried dst measured scratch h =
      let y = all_yes (trial_pairs ps) (applying_no q d snapshot ps) (applying_outcome q d snapshot ps) q d v snapshot original tried dst measured scratch h in
      let c = copy_is q d snapshot ps dst y.2 in
      let a : applying_no q d snapshot ps snapshot ≡ 0 = subst (λ (x : List ℕ). applying_no q d snapshot ps x ≡ 0) c y.2 in
      let m : measuring_no q d v (applying_outcome q d snapshot ps snapshot).plane original off measured scratch ≡ 0 = subst (λ (x : List ℕ). measuring_no q d v (applying_outcome q d snapshot ps x).plane original off measured scratch ≡ 0) c y.3 in
      let t = totals-are (trial_pairs ps) (applying_no q d snapshot ps) (applying_outcome q d snapshot ps) q d v snapshot original tried dst measured scratch y.0 y.1 y.2 in
      rw (t.0, t.1)
      (subst (λ (x : List ℕ). Agrees q ps (trying_outcome q d v snapshot original tried).totals (measuring_outcome q d v (applying_outcome q d snapshot ps x).plane original off measured scratch).totals) (sym c)
      (agrees_on q d v snapshot original ps tried measured scratch y.0 y.1 a m))

  -- the twin is the calls with the pairs of its lists, where these have the same length
  pub lists-are : (pris secs : List ℕ) (tried : List ℤ) (dst : List ℕ) (measured : List ℤ) (scratch : List ℕ) → length pris ≡ length secs
      → agree_lists_outcome q d v snapshot original pris secs tried dst measured scratch ≡ agree_outcome q d v snapshot original (pairs_of pris secs) tried dst measured scratch
  unfolding agree_lists_outcome agree_outcome
  lists-are pris secs tried dst measured scratch e = with-same _ _ _ _ _ _ q d v snapshot original tried dst measured scratch refl (twin-no q d snapshot (copied snapshot dst) pris secs e) (twin-is q d snapshot pris secs (copied snapshot dst) e)

  one-length : (pris secs dst : List ℕ) → applying_lists_no q d snapshot pris secs dst ≡ 0 → length pris ≡ length secs
  unfolding applying_lists_no
  one-length pris secs dst z =
      let t = questions-yes q _ _ _ _ _ z in
      let a = and_both (picture_listed q) _ t.seven in
      let b = and_both (eqb (length pris) (units q)) (eqb (length secs) (units q)) a.1 in
      eqb-true _ _ b.0 ∙ sym (eqb-true _ _ b.1)

  agreed-length : (pris secs : List ℕ) (tried : List ℤ) (dst : List ℕ) (measured : List ℤ) (scratch : List ℕ) → is_agreed (agree_lists_outcome q d v snapshot original pris secs tried dst measured scratch).answer ≡ true → length pris ≡ length secs
  unfolding agree_lists_outcome
  agreed-length pris secs tried dst measured scratch h = one-length pris secs (copied snapshot dst) (all_yes (trial_pairs (pairs_of pris secs)) (applying_lists_no q d snapshot pris secs) (applying_lists_outcome q d snapshot pris secs) q d v snapshot original tried dst measured scratch h).2

  -- for two lists
  pub agreed-lists : (pris secs : List ℕ) (tried : List ℤ) (dst : List ℕ) (measured : List ℤ) (scratch : List ℕ) → is_agreed (agree_lists_outcome q d v snapshot original pris secs tried dst measured scratch).answer ≡ true
      → Agrees q (pairs_of pris secs) (agree_lists_outcome q d v snapshot original pris secs tried dst measured scratch).tried (agree_lists_outcome q d v snapshot original pris secs tried dst measured scratch).measured
  agreed-lists pris secs tried dst measured scratch h =
      let e = lists-are pris secs tried dst measured scratch (agreed-length pris secs tried dst measured scratch h) in
      rw e (agreed (pairs_of pris secs) tried dst measured scratch (rw e at h))
