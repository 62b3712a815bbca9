-- Twelve trial blocks of filtered samples, stored one after the other, are the definition's table of 768 entries.
use Rattle.std.specs.Prelude.{◌≡◌, Bool, cond, List, ℕ, ◌+◌, ◌*◌, ◌/◌, ◌%◌, ◌≤◌, ◌<◌, ltb}
use Rattle.std.proofs.Math.Path.{refl, sym, ap}
use Rattle.std.proofs.Common.{◌∙◌, mul_comm, mul-le-mul}
use Rattle.std.proofs.Math.Bool.{true, false}
use native.Mathlib.Omega.{arith}
use borrow.Author.Tests.{ltb-true, ltb-false}
use Rattle.std.proofs.Math.ListN.{get_or, length}
use Rattle.std.proofs.Math.Seq.{ext_get_or}
use Rattle.cdef_spec.specs.declared.Block.{Block}
use Rattle.cdef_spec.specs.declared.TrialWay.{TrialWay}
use Rattle.cdef_spec.specs.declared.WorkingDamping.{WorkingDamping}
use Rattle.cdef_spec.specs.Words.{table}
use Rattle.cdef_spec.specs.WordsLaws.{length-table, get_or-table}
use Rattle.cdef_spec.specs.Standard.{Tap, sample}
use Rattle.cdef_spec.specs.Document01.{Plane, mark, or_else, filtered}
use Rattle.cdef_spec.specs.BlockCalls.{trial_params, trial_place}
use Rattle.cdef_spec.specs.LoopForm.{put_block}
use Rattle.arith_sample.specs.Bounds.{Held}
use Rattle.arith_sample.specs.Upto.{upto}
use Rattle.filter_window.specs.Window.{window_at}
use Rattle.trial_strengths.specs.declared.Twelve.{Twelve}
use Rattle.trial_strengths.specs.Strengths.{twelve_of}
use Rattle.trial_marks.specs.Trial.{trial_tap}
use Rattle.trial_any.specs.Any.{any_tap}
use Rattle.trial_any.specs.AnyLaws.{any-tap}
use Rattle.trial_block.specs.SampleLaws.{trial-tap}
use Rattle.cdef_spec.proofs.PlaneLaws.{length-put-block, block_in, block_out}

module _ (p : Plane) (b : Block) (way : TrialWay) (dir : ℕ) (damping : WorkingDamping) (depth : ℕ) (d : List ℕ) (hw : b.width ≤ 8) (hh : b.height ≤ 8) (long : length d ≡ 768) (f : ℕ → ℕ → Tap)
    (tap-is : (t c : ℕ) → t < 12 → c < b.height * b.width → f t c ≡ sample (or_else mark (filtered p (trial_params way depth dir damping t) (b.y + c / b.width) (b.x + c % b.width)))) where
  abbrev n : ℕ
  n = b.height * b.width

  stored : List ℕ
  stored = put_block d 64 f 0 0 n 12

  small : n ≤ 64
  small = omega (arith, mul-le-mul hh hw)

  turned : b.width * b.height ≡ n
  turned = mul_comm b.width b.height

  -- entry c of trial t
  at_place : (t c : ℕ) → t < 12 → c < 64 → (s : Bool) → ltb c (b.width * b.height) ≡ s
      → get_or stored (t * 64 + c) 0 ≡ cond s (or_else mark (filtered p (trial_params way depth dir damping t) (b.y + c / b.width) (b.x + c % b.width))) (get_or d (t * 64 + c) 0)
  unfolding stored or_else
  at_place t c ht hc true e =
      let l : c < n = omega (arith, ltb-true c (b.width * b.height) e, turned) in
      block_in 64 f d 0 0 n 12 t c hc (omega (arith, small)) (omega arith) (omega arith) (omega arith) (omega arith) (omega (arith, long))
      ∙ rw (tap-is t c ht l)
  at_place t c ht hc false e = block_out 64 f d 0 0 n 12 t c hc (omega (arith, small)) (λ i j k m. omega (arith, ltb-false c (b.width * b.height) e, turned))

  place : (k : ℕ) → k < 768 → get_or stored k 0 ≡ trial_place p b way dir damping depth d k
  unfolding trial_place
  place k h =
      let e : k / 64 * 64 + k % 64 ≡ k = omega arith in
      ap (λ (i : ℕ). get_or stored i 0) (sym e) ∙ at_place (k / 64) (k % 64) (omega arith) (omega arith) (ltb (k % 64) (b.width * b.height)) refl ∙ rw e

  pub trial-table : put_block d 64 f 0 0 (b.height * b.width) 12 ≡ table 768 (trial_place p b way dir damping depth d)
  unfolding stored
  trial-table =
      let l : length stored ≡ 768 = length-put-block 64 f d 0 0 n 12 ∙ long in
      ext_get_or 0 stored _ (l ∙ sym (length-table 768 (trial_place p b way dir damping depth d)))
      (λ k h. let g : k < 768 = omega (arith, l) in place k g ∙ sym (get_or-table 768 (trial_place p b way dir damping depth d) 0 k g))

-- the window's trial, and the trial of any block
module _ (d last win : List ℕ) (p : Plane) (b : Block) (way : TrialWay) (dir : ℕ) (damping : WorkingDamping) (depth : ℕ) (u : Twelve) (eu : u ≡ twelve_of way dir damping depth) (hw : b.width ≤ 8) (hh : b.height ≤ 8) (hd : dir < 8) (held : Held win) (long : length d ≡ 768) (ew : win ≡ upto (window_at p b) 144) where
  there : Held (upto (window_at p b) 144)
  there = rw ew at held

  pub window-table : last ≡ put_block d 64 (trial_tap win u b.width) 0 0 (b.height * b.width) 12 → last ≡ table 768 (trial_place p b way dir damping depth d)
  window-table e = e ∙ rw (ew, eu) (trial-table p b way dir damping depth d hw hh long _ (λ t c ht hc. trial-tap p b way dir damping depth hw hh hd there c hc t ht))

  pub any-table : last ≡ put_block d 64 (any_tap win u b.width) 0 0 (b.height * b.width) 12 → last ≡ table 768 (trial_place p b way dir damping depth d)
  any-table e = e ∙ rw (ew, eu) (trial-table p b way dir damping depth d hw hh long _ (any-tap p b way dir damping depth hw hh hd there))
