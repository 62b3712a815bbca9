-- The questions of a frame call step by step: a step that fails has the call's error code; where it passes, the next one is asked.
use Rattle.std.specs.Prelude.{◌≡◌, refl, Bool, true, false, cond, ◌&&◌, List, [], ◌∷◌, ◌++◌, ℕ, ◌*◌, ◌^◌, ◌<◌, eqb, length, get_or}
use Rattle.std.proofs.Common.{sym, ap, ◌∙◌, arith, eqb-true, pow_pos}
use Rattle.cdef_spec.specs.declared.SignalledDamping.{SignalledDamping}
use Rattle.cdef_spec.specs.WordsLaws.{and_both}
use Rattle.cdef_spec.specs.Picture.{Picture, plane_width, plane_height}
use Rattle.cdef_spec.specs.Questions.{Question, ask, first_no, depth_taken, luma_side_taken, flags_taken, full_planes, all_below, all_samples_below, picture_listed, picture_taken}
use Rattle.cdef_spec.specs.QuestionLaws.{below_get, first-yes, first-no, first_on}
use Rattle.cdef_spec.specs.FrameCalls.{questions}
use Rattle.check_picture.specs.Parts.{shape_first, lists_next, values_next, values_both, samples_last, after_lists, after_shape}
use Rattle.check_picture.specs.PartLaws.{one, two, three, part-stops, part-passed}

-- ---- the error codes

-- 4 to 9 with the parts of 7 and of 8 joined, and one by one; it matters not which part of 8 is asked first, since both have its number
parts-split : (full listed own taken values low : Bool)
    → first_no (ask 4 full ∷ ask 7 (listed && own) ∷ ask 8 (taken && values) ∷ ask 9 low ∷ []) ≡ first_no (ask 4 full ∷ ask 7 listed ∷ ask 7 own ∷ ask 8 values ∷ ask 8 taken ∷ ask 9 low ∷ [])
unfolding first_no
parts-split false listed own taken values low = refl
parts-split true false own taken values low = refl
parts-split true true false taken values low = refl
parts-split true true true true values low = refl
parts-split true true true false true low = refl
parts-split true true true false false low = refl

module _ (q : Picture) (signalled : SignalledDamping) (planes : List (List ℕ)) (lists values : Bool) (looked : List (List ℕ)) where
  abbrev after : List Question
  after = after_shape q signalled planes lists values looked

  shape-joined : first_no (shape_first q ++ after) ≡ first_no (questions q signalled planes lists values looked)
  unfolding questions after_shape after_lists first_no
  shape-joined = ap (λ n. cond (depth_taken q.depth) (cond (luma_side_taken q.width && luma_side_taken q.height) (cond (flags_taken q.kind) n 3) 2) 1)
      (sym (parts-split (full_planes q planes) (picture_listed q) lists (picture_taken q signalled) values (all_samples_below (2 ^ q.depth) looked)))

  pub shape-stops : (n : ℕ) → n ≡ first_no (shape_first q) → (n ≡ 0 → ⊥) → n ≡ first_no (questions q signalled planes lists values looked)
  shape-stops n e h = part-stops (shape_first q) after (three _ _ _ (λ e. omega arith) (λ e. omega arith) (λ e. omega arith)) n e h ∙ shape-joined

  module _ (x : first_no (shape_first q) ≡ 0) where
    shape-passes : first_no (questions q signalled planes lists values looked) ≡ first_no after
    shape-passes = sym shape-joined ∙ part-passed (shape_first q) after (three _ _ _ (λ e. omega arith) (λ e. omega arith) (λ e. omega arith)) x

    pub lists-stop : (n : ℕ) → n ≡ first_no (lists_next q planes) → (n ≡ 0 → ⊥) → n ≡ first_no (questions q signalled planes lists values looked)
    unfolding after_shape
    lists-stop n e h = part-stops (lists_next q planes) _ (two _ _ (λ e. omega arith) (λ e. omega arith)) n e h ∙ sym shape-passes

    module _ (y : first_no (lists_next q planes) ≡ 0) where
      lists-pass : first_no (questions q signalled planes lists values looked) ≡ first_no (ask 7 lists ∷ ask 8 values ∷ after_lists q signalled looked)
      unfolding after_shape
      lists-pass = shape-passes ∙ part-passed (lists_next q planes) _ (two _ _ (λ e. omega arith) (λ e. omega arith)) y

      -- a call's own parts of 7 and 8
      pub own-lists-stop : lists ≡ false → 7 ≡ first_no (questions q signalled planes lists values looked)
      own-lists-stop e = sym (lists-pass ∙ first-no _ _ e)

      pub own-values-stop : lists ≡ true → values ≡ false → 8 ≡ first_no (questions q signalled planes lists values looked)
      own-values-stop e f = sym (lists-pass ∙ first_on _ _ e ∙ first-no _ _ f)

      pub own-pass : lists ≡ true → values ≡ true → first_no (questions q signalled planes lists values looked) ≡ first_no (after_lists q signalled looked)
      own-pass e f = lists-pass ∙ first_on _ _ e ∙ first_on _ _ f

-- 8 of the picture, and 9
module _ (q : Picture) (signalled : SignalledDamping) (looked : List (List ℕ)) where
  pub values-stop : (n : ℕ) → n ≡ first_no (values_next q signalled) → (n ≡ 0 → ⊥) → n ≡ first_no (after_lists q signalled looked)
  unfolding after_lists
  values-stop = part-stops (values_next q signalled) (samples_last q.depth looked) (one _ (λ e. omega arith))

  pub samples-left : first_no (values_next q signalled) ≡ 0 → first_no (after_lists q signalled looked) ≡ first_no (samples_last q.depth looked)
  unfolding after_lists
  samples-left = part-passed (values_next q signalled) (samples_last q.depth looked) (one _ (λ e. omega arith))

-- 9 plane by plane
module _ (depth : ℕ) (a : List ℕ) (ls : List (List ℕ)) where
  first-plane : (low rest : Bool) → first_no (ask 9 (low && rest) ∷ []) ≡ cond low (first_no (ask 9 rest ∷ [])) 9
  unfolding first_no
  first-plane true rest = refl
  first-plane false rest = refl

  plane-by-plane : first_no (samples_last depth (a ∷ ls)) ≡ cond (all_below (2 ^ depth) a) (first_no (samples_last depth ls)) 9
  unfolding all_samples_below
  plane-by-plane = first-plane (all_below (2 ^ depth) a) (all_samples_below (2 ^ depth) ls)

  pub plane-stops : (n : ℕ) → n ≡ first_no (samples_last depth (a ∷ [])) → (n ≡ 0 → ⊥) → n ≡ first_no (samples_last depth (a ∷ ls))
  unfolding all_samples_below first_no
  plane-stops n e h = go (all_below (2 ^ depth) a) e ∙ sym plane-by-plane
    where
      go : (low : Bool) → n ≡ cond (low && true) 0 9 → n ≡ cond low (first_no (samples_last depth ls)) 9
      go true e = absurd (h e)
      go false e = e

  pub plane-passes : first_no (samples_last depth (a ∷ [])) ≡ 0 → first_no (samples_last depth (a ∷ ls)) ≡ first_no (samples_last depth ls)
  unfolding all_samples_below
  plane-passes z = plane-by-plane ∙ rw (and_both (all_below (2 ^ depth) a) true (first-yes _ _ (λ e. omega arith) z).0).0 refl

-- ---- what a passed step says

-- 4 and 7
module _ (q : Picture) (a b : List ℕ) (z : first_no (lists_next q (a ∷ b ∷ [])) ≡ 0) where
  planes-full : (eqb (length a) (plane_width q * plane_height q) ≡ true) × (eqb (length b) (plane_width q * plane_height q) ≡ true)
  unfolding full_planes
  planes-full =
      let h = and_both _ _ (first-yes _ _ (λ e. omega arith) z).0 in
      (h.0, (and_both _ _ h.1).0)

  pub first-long : length a ≡ plane_width q * plane_height q
  first-long = eqb-true _ _ planes-full.0

  pub second-long : length b ≡ plane_width q * plane_height q
  second-long = eqb-true _ _ planes-full.1

  pub lists-long : picture_listed q ≡ true
  lists-long = (first-yes _ _ (λ e. omega arith) (first-yes _ _ (λ e. omega arith) z).1).0

-- where a call has no part of its own in 8, the picture's alone is asked
pub values-alone : (q : Picture) (signalled : SignalledDamping) → first_no (values_both q signalled true) ≡ first_no (values_next q signalled)
values-alone q signalled = ap (λ taken. first_no (ask 8 taken ∷ [])) (own-passed (picture_taken q signalled))
  where
    own-passed : (b : Bool) → b && true ≡ b
    own-passed true = refl
    own-passed false = refl

-- 8
pub picture-values : (q : Picture) (d : SignalledDamping) → first_no (values_next q d) ≡ 0 → picture_taken q d ≡ true
picture-values q d z = (first-yes _ _ (λ e. omega arith) z).0

-- 9
pub plane-low : (depth : ℕ) (a : List ℕ) → first_no (samples_last depth (a ∷ [])) ≡ 0 → (k : ℕ) → get_or a k 0 < 2 ^ depth
unfolding all_samples_below
plane-low depth a z = below_get (2 ^ depth) a (and_both _ _ (first-yes _ _ (λ e. omega arith) z).0).0 (pow_pos depth)
