-- Laws of blocks whose samples fill runs of sixteen.
use Rattle.std.specs.Prelude.{◌≡◌, ◌⊎◌, Option, Some, None, IfSome, refl, List, ℕ, zero, suc, ◌+◌, ◌*◌, ◌/◌, ◌%◌, ◌≤◌, ◌<◌, get_or}
use Rattle.std.proofs.Common.{⊎_elim, sym, ap, ◌∙◌, div-add-mod', mod-lt, mul-le-mul_right, div-lt_iff_lt-mul, arith}
use Rattle.std.proofs.Math.Decide.{dec_lt}
use Rattle.cdef_spec.specs.Standard.{Tap}
use Rattle.cdef_spec.specs.LoopForm.{put_row, put_block}
use Rattle.cdef_spec.proofs.PlaneLaws.{block_same}
use Rattle.cdef_spec.specs.declared.TrialWay.{TrialWay}
use Rattle.cdef_spec.specs.declared.WorkingDamping.{WorkingDamping}
use Rattle.arith_sample.specs.Bounds.{Held, Marked}
use Rattle.filter_rows.specs.declared.Taps.{Taps}
use Rattle.plane_taps.specs.Steps.{taps_by}
use Rattle.plane_taps.specs.StepLaws.{taps-near}
use Rattle.plane_taps.specs.Reach.{Around}
use Rattle.plane_taps.specs.ReachLaws.{around-of}
use Rattle.trial_strengths.specs.declared.Twelve.{Twelve}
use Rattle.trial_strengths.specs.Strengths.{twelve_of}
use Rattle.trial_strengths.specs.StrengthLaws.{twelve-ready}
use Rattle.trial_strips.specs.Strips.{Strips}
use Rattle.trial_sixteen.specs.Sixteen.{taps_or, sec_by, raw_tap, Strong}
use Rattle.trial_marks.specs.Trial.{trial_tap, Tame}
use Rattle.trial_marks.specs.StripLaws.{sec-same}
use Rattle.trial_marks.specs.TrialLaws.{trial-is, same-twelve}
use Rattle.arith_numbers.specs.Packed.{Packed}
use Rattle.arith_numbers.specs.PackedLaws.{width_low, runs-are, area}

module _ (w h : ℕ) (k : Packed w h) where
  rows-low : (h + 4) * w ≤ 12 * w
  rows-low = let a : h + 4 ≤ 12 = omega (arith, k.height) in mul-le-mul_right w a

  pub pitch-low : (h + 4) * w ≤ 96
  pitch-low = omega (arith, rows-low, (width_low w h k).1)

  -- run i of the block in its strips, and the taps of a direction around it
  pub run-around : (dir i : ℕ) → dir < 8 → i < w * h / 16 → Around 480 (2 * ((h + 4) * w) + 2 * w + i * 16) 16 (taps_by w ((h + 4) * w) dir)
  run-around dir i hd hi =
      around-of (taps-near w ((h + 4) * w) (omega (arith, (width_low w h k).1)) (omega (arith, pitch-low)) dir hd) 480 (2 * ((h + 4) * w) + 2 * w + i * 16) 16
      (omega arith) (omega (arith, (width_low w h k).1, area w h k, runs-are w h k)) (omega arith)

  -- and around it the taps of direction 0, where they are not left to the block's own
  pub turned-around : (dir : ℕ) (turned : Option Taps) → ((turned ≡ None) × (dir % 4 ≡ 0)) ⊎ (turned ≡ Some (taps_by w ((h + 4) * w) 0)) → (i : ℕ) → i < w * h / 16
      → IfSome turned (λ (o : Taps). Around 480 (2 * ((h + 4) * w) + 2 * w + i * 16) 16 o)
  turned-around dir turned z i hi = ⊎_elim (λ n. rw n.0 tt) (λ s. rw s (run-around 0 i (omega arith) hi)) z

-- the entries of strips are the window's, or 0
module _ {win s : List ℕ} {w n : ℕ} (st : Strips win w n s) (hw : 0 < w) (hn : 0 < n) (held : Held win) where
  strip-held : (k : ℕ) → get_or s k 0 ≤ 16384
  strip-held k = go (dec_lt k (5 * n * w))
    where
      go : Dec (k < 5 * n * w) → get_or s k 0 ≤ 16384
      go (no g) = rw (st.rest k (omega arith)) (omega arith)
      go (yes g) =
          let a : k / w * w + k % w ≡ k = div-add-mod' k w in
          let b : k / w / n * n + k / w % n ≡ k / w = div-add-mod' (k / w) n in
          let c : k / w < 5 * n = (div-lt_iff_lt-mul hw).1 g in
          let d : k / w / n < 5 = (div-lt_iff_lt-mul hn).1 c in
          let e = st.at (k / w / n) (k / w % n) (k % w) d (mod-lt (k / w) hn) (mod-lt k hw) in
          let q : get_or s k 0 ≡ get_or win (k / w % n * 12 + (k / w / n + k % w)) 0 = ap (λ (i : ℕ). get_or s i 0) (sym (rw b a)) ∙ e in
          rw q (held.all _)

  pub strips-held : Held s
  strips-held = record { all = strip-held }

-- no entries stored
pub block_none : (d : List ℕ) (f : ℕ → ℕ → Tap) (y x n : ℕ) → put_block d 64 f y x 0 n ≡ d
unfolding put_block put_row
block_none d f y x zero = refl
block_none d f y x (suc n) = block_none d f y x n

-- the strengths of the twelve lie in range
pub strong-twelve : (way : TrialWay) (dir : ℕ) (damping : WorkingDamping) (depth : ℕ) → dir < 8 → depth ≤ 12 → Strong (twelve_of way dir damping depth)
strong-twelve way dir damping depth hd hi =
    let r = twelve-ready way dir damping depth hd hi in
    record { p1 = r.p1; p2 = r.p2; p3 = r.p3; s1 = r.s1; s2 = r.s2; same = same-twelve way dir damping depth }

-- in the directions 0 and 4 the block's own secondary taps do for those of direction 0
raw-same : (l : List ℕ) (from w p dir : ℕ) (u : Twelve) (t c : ℕ) → dir < 8 → dir % 4 ≡ 0 → raw_tap l from (taps_by w p dir) (taps_by w p dir) u t c ≡ raw_tap l from (taps_by w p dir) (taps_by w p 0) u t c
unfolding raw_tap
raw-same l from w p dir u t c hd e = rw (sec-same l (from + c) w p dir (sec_by u (t / 4)).s (sec_by u (t / 4)).sh hd e)

-- what is stored run by run from the strips is the window's trial
pub runs-trial : (d last win l : List ℕ) (w h : ℕ) (k : Packed w h) → Strips win w (h + 4) l → Marked win → (u : Twelve) (dir : ℕ) → dir < 8 → Tame u dir → (own : Taps) (turned : Option Taps) → own ≡ taps_by w ((h + 4) * w) dir
    → ((turned ≡ None) × (dir % 4 ≡ 0)) ⊎ (turned ≡ Some (taps_by w ((h + 4) * w) 0))
    → last ≡ put_block d 64 (raw_tap l (2 * ((h + 4) * w) + 2 * w) own (taps_or own turned) u) 0 0 (w * h / 16 * 16) 12 → last ≡ put_block d 64 (trial_tap win u w) 0 0 (h * w) 12
unfolding taps_or
runs-trial d last win l w h k st m u dir hd q own turned eo z e =
    e ∙ rw (eo, runs-are w h k) (block_same d 64 _ (trial_tap win u w) 0 0 (h * w) 12 (λ t c a g x y. go t c (omega arith) z))
  where
    last-is : (t c : ℕ) → c < h * w → raw_tap l (2 * ((h + 4) * w) + 2 * w) (taps_by w ((h + 4) * w) dir) (taps_by w ((h + 4) * w) 0) u t c ≡ trial_tap win u w t c
    last-is t c hc = trial-is st m (width_low w h k).0 (width_low w h k).1 (omega (arith, k.height)) hd q h t c refl hc

    go : (t c : ℕ) → c < h * w → ((turned ≡ None) × (dir % 4 ≡ 0)) ⊎ (turned ≡ Some (taps_by w ((h + 4) * w) 0)) → raw_tap l (2 * ((h + 4) * w) + 2 * w) (taps_by w ((h + 4) * w) dir) (taps_or (taps_by w ((h + 4) * w) dir) turned) u t c ≡ trial_tap win u w t c
    go t c hc = ⊎_elim (λ n. rw n.0 (raw-same l (2 * ((h + 4) * w) + 2 * w) w ((h + 4) * w) dir u t c hd n.1 ∙ last-is t c hc)) (λ s. rw s (last-is t c hc))
