-- The trials' taps and strengths lie in range, and rows stored one after the other make a trial block.
use Rattle.std.specs.Prelude.{◌≡◌, refl, Bool, true, false, cond, List, [], ◌∷◌, ℕ, zero, suc, ◌+◌, ◌-◌, ◌*◌, ◌/◌, ◌%◌, ◌≤◌, ◌<◌, eqb, get_or, length, take, replicate}
use Rattle.std.proofs.Common.{sym, ap, ◌∙◌, mul-le-mul, mul_comm, div-add-mod', eqb-true}
use native.Mathlib.Omega.{arith}
use Rattle.std.proofs.Math.Arith.{digits_div, digits_mod}
use Rattle.std.proofs.Math.Seq.{length-take-le, get_or-take}
use Rattle.std.proofs.lemmas.List.{length-replicate, get_or-replicate}
use Rattle.cdef_spec.specs.Standard.{sample, missing}
use Rattle.cdef_spec.specs.Document01.{unmarked, or_else}
use Rattle.cdef_spec.specs.GeometryLaws.{row_of}
use Rattle.cdef_spec.specs.LoopForm.{put_row, put_block}
use Rattle.cdef_spec.proofs.PlaneLaws.{row_same, block_in, block_more, length-put-block}
use Rattle.arith_sample.specs.Upto.{upto, get_or-upto}
use Rattle.filter_block.specs.Store.{window_tap}
use Rattle.filter_rows.specs.declared.Taps.{Taps}
use Rattle.filter_rows.specs.declared.Strength.{Strength}
use Rattle.filter_rows.specs.Sums.{Near6, InRange}
use Rattle.filter_kernel.specs.Kernel.{kernel_at}
use Rattle.trial_runs.specs.Runs.{run_tap}
use Rattle.trial_runs.specs.JoinLaws.{row-join}
use Rattle.trial_strengths.specs.declared.Twelve.{Twelve}
use Rattle.trial_strengths.specs.Strengths.{Ready}
use Rattle.trial_any.specs.Any.{none, taps_by, primary_by, secondary_by, kernel_tap, any_tap}

-- of two that are in range, the one that is taken
taken : {A : Type 0} (P : A → Type 0) (b : Bool) (x y : A) → P x → P y → P (cond b x y)
taken P true x y h k = h
taken P false x y h k = k

none_in : InRange none
unfolding none
none_in = record { s = omega arith; sh = omega arith; w0 = omega arith; w1 = omega arith }

module _ (u : Twelve) (r : Ready u) where
  pub taps-in : (i : ℕ) → Near6 (taps_by u i)
  unfolding taps_by
  taps-in i = taken Near6 (eqb i 0) _ _ r.zero r.own

  pub primary-in : (i : ℕ) → InRange (primary_by u i)
  unfolding primary_by
  primary-in i = taken InRange (eqb i 0) _ _ none_in (taken InRange (eqb i 1) _ _ r.p1 (taken InRange (eqb i 2) _ _ r.p2 r.p3))

  pub secondary-in : (j : ℕ) → InRange (secondary_by u j)
  unfolding secondary_by
  secondary-in j = taken InRange (eqb j 0) _ _ none_in (taken InRange (eqb j 1) _ _ r.s1 r.s2)

-- a sample or a mark, stored over a mark
over-mark : (v : ℕ) → or_else 16384 (unmarked v) ≡ v
unfolding or_else unmarked
over-mark v = go (eqb v 16384) refl
  where
    go : (b : Bool) → eqb v 16384 ≡ b → or_else 16384 (cond b missing (sample v)) ≡ v
    go true e = sym (eqb-true v 16384 e)
    go false e = refl

-- a block's samples fit into 64 entries
pub small : (w h : ℕ) → w ≤ 8 → h ≤ 8 → h * w ≤ 64
small w h hw hh = omega (arith, mul-le-mul hh hw)

module _ (win : List ℕ) (o : Taps) (f g : Strength) (w h : ℕ) (hw : w ≤ 8) (hh : h ≤ 8) where
  window-entry : (r c : ℕ) → or_else 16384 (window_tap win o f g 0 0 r c) ≡ kernel_at win ((r + 2) * 12 + 2 + c) o f g
  unfolding window_tap
  window-entry r c =
      let a : r - 0 ≡ r = omega arith in
      let b : c - 0 ≡ c = omega arith in
      rw (a, b) (over-mark _)

  -- entry c of the room that the block filter's rows were stored in
  room-entry : (room : List ℕ) → room ≡ put_block (replicate 64 16384) w (window_tap win o f g 0 0) 0 0 w h → (c : ℕ) → c < h * w → get_or room c 0 ≡ kernel_at win ((c / w + 2) * 12 + 2 + c % w) o f g
  room-entry room e c hc =
      let r = row_of w h c (rw (mul_comm w h) hc) in
      let k : c / w * w + c % w ≡ c = div-add-mod' c w in
      let l : c < 64 = omega (arith, small w h hw hh) in
      let m : ◌≡◌ {A = ℕ} (get_or (replicate 64 16384) c 0) 16384 = get_or-replicate 64 c 16384 0 l in
      let b = block_in w (window_tap win o f g 0 0) (replicate 64 16384) 0 0 w h (c / w) (c % w) r.1 (omega arith) (omega arith) (omega (arith, r.0)) (omega arith) (omega (arith, r.1)) (rw k (omega (arith, length-replicate {A = ℕ} 64 16384))) in
      rw e (ap (λ (i : ℕ). get_or (put_block (replicate 64 16384) w (window_tap win o f g 0 0) 0 0 w h) i 0) (sym k) ∙ b ∙ rw (k, m) (window-entry (c / w) (c % w)))

  -- the trial block
  pub room-long : (room : List ℕ) → room ≡ put_block (replicate 64 16384) w (window_tap win o f g 0 0) 0 0 w h → length room ≡ 64
  room-long room e = ap length e ∙ length-put-block w (window_tap win o f g 0 0) (replicate 64 16384) 0 0 w h ∙ length-replicate {A = ℕ} 64 16384

  pub taken-long : (room : List ℕ) → length room ≡ 64 → length (take (h * w) room) ≡ h * w
  taken-long room r = length-take-le (h * w) room (omega (arith, r, small w h hw hh))

  pub trial-is : (l last room : List ℕ) (t : ℕ) → room ≡ put_block (replicate 64 16384) w (window_tap win o f g 0 0) 0 0 w h → last ≡ put_row l 64 (run_tap (take (h * w) room) 0) t 0 (length (take (h * w) room))
      → last ≡ put_row l 64 (kernel_tap win o f g w) t 0 (h * w)
  unfolding run_tap kernel_tap
  trial-is l last room t e q =
      q ∙ rw (taken-long room (room-long room e)) (row_same l 64 (run_tap (take (h * w) room) 0) (kernel_tap win o f g w) t 0 (h * w) (λ c a b.
      let z : c - 0 ≡ c = omega arith in
      let k : c < h * w = omega arith in
      rw z (ap sample (get_or-take (h * w) room c 0 k ∙ room-entry room e c k))))

-- one trial block more
pub trials-more : (win : List ℕ) (u : Twelve) (w n : ℕ) (l d last : List ℕ) (t : ℕ) (o : Taps) (f g : Strength) → o ≡ taps_by u (t % 4) → f ≡ primary_by u (t % 4) → g ≡ secondary_by u (t / 4)
    → d ≡ put_block l 64 (any_tap win u w) 0 0 n t → last ≡ put_row d 64 (kernel_tap win o f g w) t 0 n → last ≡ put_block l 64 (any_tap win u w) 0 0 n (t + 1)
unfolding any_tap
trials-more win u w n l d last t o f g eo ef eg e h =
    let z : 0 + t ≡ t = omega arith in
    h
    ∙ row_same d 64 (kernel_tap win o f g w) (any_tap win u w) t 0 n (λ c a b. rw (eo, ef, eg))
    ∙ rw (block_more l 64 (any_tap win u w) 0 0 n t, z, e)

-- the strengths of the pair i, j
primary-at : (u : Twelve) (i : ℕ) → i < 4 → get_or (none ∷ u.p1 ∷ u.p2 ∷ u.p3 ∷ []) i none ≡ primary_by u i
unfolding primary_by
primary-at u zero h = refl
primary-at u (suc zero) h = refl
primary-at u (suc (suc zero)) h = refl
primary-at u (suc (suc (suc zero))) h = refl
primary-at u (suc (suc (suc (suc i)))) h = absurd (omega arith)

secondary-at : (u : Twelve) (j : ℕ) → j < 3 → get_or (none ∷ u.s1 ∷ u.s2 ∷ []) j none ≡ secondary_by u j
unfolding secondary_by
secondary-at u zero h = refl
secondary-at u (suc zero) h = refl
secondary-at u (suc (suc zero)) h = refl
secondary-at u (suc (suc (suc j))) h = absurd (omega arith)

module _ (u : Twelve) (r : Ready u) where
  pub primary-ready : (i : ℕ) → i < 4 → InRange (get_or (none ∷ u.p1 ∷ u.p2 ∷ u.p3 ∷ []) i none)
  primary-ready i h = rw (primary-at u i h) (primary-in u r i)

  pub secondary-ready : (j : ℕ) → j < 3 → InRange (get_or (none ∷ u.s1 ∷ u.s2 ∷ []) j none)
  secondary-ready j h = rw (secondary-at u j h) (secondary-in u r j)

-- the trial of that pair
pub pair-more : (win : List ℕ) (u : Twelve) (w n : ℕ) (l d last : List ℕ) (j i : ℕ) (o : Taps) → j < 3 → i < 4 → o ≡ taps_by u i → d ≡ put_block l 64 (any_tap win u w) 0 0 n (j * 4 + i)
    → last ≡ put_row d 64 (kernel_tap win o (get_or (none ∷ u.p1 ∷ u.p2 ∷ u.p3 ∷ []) i none) (get_or (none ∷ u.s1 ∷ u.s2 ∷ []) j none) w) (j * 4 + i) 0 n → last ≡ put_block l 64 (any_tap win u w) 0 0 n (j * 4 + (i + 1))
pair-more win u w n l d last j i o hj hi eo e h =
    let a : (j * 4 + i) % 4 ≡ i = omega arith in
    let b : (j * 4 + i) / 4 ≡ j = omega arith in
    let z : j * 4 + (i + 1) ≡ j * 4 + i + 1 = omega arith in
    rw z (trials-more win u w n l d last (j * 4 + i) o _ _ (rw a eo) (rw a (primary-at u i hi)) (rw b (secondary-at u j hj)) e h)

-- ---- row by row

-- row i of w entries lies in the 64 of a trial block
pub row_low : (i w h : ℕ) → i < h → w ≤ 8 → h ≤ 8 → i * w + w ≤ 64
row_low i w h hi hw hh = let a : i + 1 ≤ 8 = omega arith in omega (arith, mul-le-mul a hw)

module _ (win : List ℕ) (o : Taps) (f g : Strength) (w : ℕ) (hw : w ≤ 8) where
  abbrev at : ℕ → ℕ
  at k = kernel_at win k o f g

  -- entry c of a trial block, in its row i
  row-entry : (i c : ℕ) (v : List ℕ) → v ≡ upto (λ (j : ℕ). at ((i + 2) * 12 + 2 + j)) 8 → i * w ≤ c → c < i * w + w → get_or v (c - i * w) 0 ≡ at ((c / w + 2) * 12 + 2 + c % w)
  row-entry i c v e lo hi =
      let j : ℕ = c - i * w in
      let l : j < w = omega arith in
      let k : i * w + j ≡ c = omega arith in
      let q : c / w ≡ i = ap (λ (n : ℕ). n / w) (sym k) ∙ digits_div i {m = w} {r = j} l in
      let r : c % w ≡ j = ap (λ (n : ℕ). n % w) (sym k) ∙ digits_mod i {m = w} {r = j} l in
      rw (e, get_or-upto (λ (j : ℕ). at ((i + 2) * 12 + 2 + j)) 8 j 0 (omega arith), q, r)

  -- one row more
  pub trial-more : (l d last : List ℕ) (t i : ℕ) (v : List ℕ) → v ≡ upto (λ (j : ℕ). kernel_at win ((i + 2) * 12 + 2 + j) o f g) 8
      → d ≡ put_row l 64 (kernel_tap win o f g w) t 0 (i * w) → last ≡ put_row d 64 (run_tap v (i * w)) t (i * w) w → last ≡ put_row l 64 (kernel_tap win o f g w) t 0 ((i + 1) * w)
  unfolding run_tap kernel_tap
  trial-more l d last t i v ev e h =
      let z : (i + 1) * w ≡ i * w + w = omega arith in
      h
      ∙ row_same d 64 (run_tap v (i * w)) (kernel_tap win o f g w) t (i * w) w (λ c a b. ap sample (row-entry i c v ev a b))
      ∙ rw (e, z) (row-join l 64 (kernel_tap win o f g w) t (i * w) w)
