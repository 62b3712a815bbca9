-- What the trial's parts say: the error code of a first part is the call's; where it passes, facts follow.
use Rattle.std.specs.Prelude.{◌≡◌, true, cond, ◌&&◌, List, [], ◌∷◌, ℕ, ◌≤◌, ◌<◌, ltb, eqb, length}
use Rattle.std.proofs.Common.{arith}
use borrow.Author.Tests.{ltb-true, eqb-true, ne_eqb}
use Rattle.cdef_spec.specs.declared.Block.{Block}
use Rattle.cdef_spec.specs.declared.TrialWay.{TrialWay}
use Rattle.cdef_spec.specs.declared.WorkingDamping.{WorkingDamping}
use Rattle.cdef_spec.specs.Words.{table}
use Rattle.cdef_spec.specs.WordsLaws.{and_both}
use Rattle.cdef_spec.specs.Document01.{Plane}
use Rattle.cdef_spec.specs.Answers.{taken, refused, nothing, result_of}
use Rattle.cdef_spec.specs.Questions.{ask, first_no, way_taken, working_taken, widened_taken}
use Rattle.cdef_spec.specs.QuestionLaws.{first-yes, first-join, none, more}
use Rattle.cdef_spec.specs.BlockCalls.{trial_no, trial_place, trial_outcome}
use Rattle.check_block.specs.TrialParts.{trial_first}
use Rattle.check_block.specs.PartLaws.{PlaneFacts, plane-facts, BlockFacts, block-facts}
use Rattle.check_values.specs.YesLaws.{working-le}

pub record TrialFacts (p : Plane) (b : Block) (dir : ℕ) (damping : WorkingDamping) (depth : ℕ) (out : List ℕ) : Type 0 where
  pub plane : PlaneFacts p depth
  pub block : BlockFacts p b
  pub long : length out ≡ 768
  pub dir-low : dir < 8
  pub damping-low : damping.0 ≤ 31

module _ (p : Plane) (b : Block) (way : TrialWay) (dir : ℕ) (damping : WorkingDamping) (depth : ℕ) (out : List ℕ) where
  pub trial-facts : first_no (trial_first p b way dir damping depth out) ≡ 0 → TrialFacts p b dir damping depth out
  trial-facts z =
      let a = first-yes _ _ (λ e. omega arith) z in
      let c = first-yes _ _ (λ e. omega arith) a.1 in
      let d = first-yes _ _ (λ e. omega arith) c.1 in
      let f = first-yes _ _ (λ e. omega arith) d.1 in
      let g = first-yes _ _ (λ e. omega arith) f.1 in
      let h = first-yes _ _ (λ e. omega arith) g.1 in
      let k = and_both (ltb dir 8) (way_taken way && working_taken damping) h.0 in
      let l = and_both (way_taken way) (working_taken damping) k.1 in
      record { plane = plane-facts p depth a.0 c.0 d.0; block = block-facts p b f.0; long = eqb-true (length out) 768 g.0; dir-low = ltb-true dir 8 k.0; damping-low = working-le damping l.1 }

  -- all seven, by the first six
  trial-no : trial_no p b way dir damping depth out ≡ cond (eqb (first_no (trial_first p b way dir damping depth out)) 0) (first_no (ask 9 (widened_taken p depth b) ∷ [])) (first_no (trial_first p b way dir damping depth out))
  unfolding trial_no
  trial-no = first-join (trial_first p b way dir damping depth out) (ask 9 (widened_taken p depth b) ∷ []) (more (λ e. omega arith) (more (λ e. omega arith) (more (λ e. omega arith) (more (λ e. omega arith) (more (λ e. omega arith) (more (λ e. omega arith) none))))))

  pub trial-refused : (n : ℕ) → n ≡ first_no (trial_first p b way dir damping depth out) → (n ≡ 0 → ⊥) → trial_outcome p b way dir damping depth out ≡ record { answer = refused n; out = out }
  unfolding trial_outcome result_of
  trial-refused n e h = rw (trial-no, ← e, ne_eqb n 0 h) (rw (ne_eqb n 0 h))

  pub trial-samples : first_no (trial_first p b way dir damping depth out) ≡ 0 → (n : ℕ) → n ≡ first_no (ask 9 (widened_taken p depth b) ∷ []) → (n ≡ 0 → ⊥) → trial_outcome p b way dir damping depth out ≡ record { answer = refused n; out = out }
  unfolding trial_outcome result_of
  trial-samples z n e h = rw (trial-no, z, ← e, ne_eqb n 0 h)

  pub trial-done : first_no (trial_first p b way dir damping depth out) ≡ 0 → widened_taken p depth b ≡ true → (last : List ℕ) → last ≡ table 768 (trial_place p b way dir damping depth out)
      → trial_outcome p b way dir damping depth out ≡ record { answer = taken nothing; out = last }
  unfolding trial_outcome result_of first_no
  trial-done z e last l = rw (trial-no, z, e, l)
