-- No picture has more than 4,096 units; applying's error code, out of its outcome, and that of the variant with two lists.
use Rattle.std.specs.Prelude.{◌≡◌, Bool, cond, ◌&&◌, List, ℕ, ◌≤◌, leb, eqb, length, Option}
use Rattle.std.proofs.Math.Path.{refl, sym, ap}
use Rattle.std.proofs.Common.{◌∙◌, arith, mul-le-mul}
use Rattle.std.proofs.Math.Bool.{true, false}
use borrow.Author.Tests.{leb-true, eqb-true}
use Rattle.cdef_spec.specs.declared.SignalledDamping.{SignalledDamping}
use Rattle.cdef_spec.specs.declared.UnitPair.{UnitPair}
use Rattle.cdef_spec.specs.WordsLaws.{and_both}
use Rattle.cdef_spec.specs.Picture.{Picture, unit_rows, unit_cols, units}
use Rattle.cdef_spec.specs.Answers.{taken, refused, nothing, number_of, result_of}
use Rattle.cdef_spec.specs.Questions.{side_taken, luma_side_taken}
use Rattle.cdef_spec.specs.FrameCalls.{ApplyingOutcome, applying_no, applying_outcome, applying_lists_no, applying_lists_outcome, pairs_of}
use Rattle.cdef_spec.proofs.OutcomeLaws.{twin-is}

side-low : (n : ℕ) → luma_side_taken n ≡ true → n ≤ 4096
unfolding luma_side_taken side_taken
side-low n e = leb-true n 4096 (and_both (leb 1 n) (leb n 4096) (and_both (leb 1 n && leb n 4096) _ e).0).1

-- question 2
abbrev pub sides : Picture → Bool
sides q = luma_side_taken q.width && luma_side_taken q.height

-- no picture that passes it has more than 4,096 units
pub few-units : (q : Picture) → sides q ≡ true → units q ≤ 4096
unfolding units
few-units q e =
    let s = and_both (luma_side_taken q.width) (luma_side_taken q.height) e in
    let w = side-low q.width s.0 in
    let h = side-low q.height s.1 in
    let r : unit_rows q ≤ 64 = omega arith in
    let c : unit_cols q ≤ 64 = omega arith in
    mul-le-mul r c

pub number-back : (n : ℕ) → number_of (result_of n nothing) ≡ n
unfolding result_of number_of
number-back n = go (eqb n 0) refl
  where
    go : (b : Bool) → eqb n 0 ≡ b → number_of (cond b (taken nothing) (refused n)) ≡ n
    go true z = sym (eqb-true n 0 z)
    go false z = refl

module _ (q : Picture) (d : Option SignalledDamping) (snapshot dst : List ℕ) where
  number-of : (ps : List UnitPair) → number_of (applying_outcome q d snapshot ps dst).answer ≡ applying_no q d snapshot ps dst
  unfolding applying_outcome
  number-of ps = number-back _

  number-of-lists : (pris secs : List ℕ) → number_of (applying_lists_outcome q d snapshot pris secs dst).answer ≡ applying_lists_no q d snapshot pris secs dst
  unfolding applying_lists_outcome
  number-of-lists pris secs = number-back _

  -- the variant's error code, where the lists have the same length
  pub twin-no : (pris secs : List ℕ) → length pris ≡ length secs → applying_lists_no q d snapshot pris secs dst ≡ applying_no q d snapshot (pairs_of pris secs) dst
  twin-no pris secs e = sym (number-of-lists pris secs) ∙ ap (λ (o : ApplyingOutcome). number_of o.answer) (twin-is q d snapshot pris secs dst e) ∙ number-of (pairs_of pris secs)
