-- Whole blocks have the same distances.
use Rattle.std.specs.Prelude.{◌≡◌, refl, Option, Some, None, List, ℕ, ◌*◌, ◌^◌, ◌≤◌, ◌<◌, get_or}
use Rattle.std.proofs.Common.{sym, ap, ◌∙◌, lt_of_lt_of_le, pow_mono}
use Rattle.cdef_spec.specs.declared.DistanceConstants.{DistanceConstants}
use Rattle.cdef_spec.specs.LoopForm.{add_turns}
use Rattle.arith_sample.specs.Upto.{upto, upto-ext, get_or-upto}
use Rattle.arith_totals.specs.FoldLaws.{turns_same}
use Rattle.distance_sums.specs.Blocks.{at, block_of, Within}
use Rattle.distance_sums.specs.BlockLaws.{block-cell}
use Rattle.distance_block.specs.WeightedLaws.{weighted-same}
use Rattle.distance_visible.specs.declared.Part.{Part}
use Rattle.distance_visible.specs.Cut.{cut_distance}
use Rattle.distance_visible.specs.CutLaws.{cut-whole}
use Rattle.try_whole.specs.Whole.{whole_distances}
use Rattle.try_packed.specs.Rows.{packed_distances}
use Rattle.try_totals.specs.Totals.{trial_distances, part_distances}

-- a whole luma block
pub whole_same : (c : DistanceConstants) (rows cols : ℕ) (original a : List ℕ) (start pitch : ℕ) (blocks : List ℕ) (step : ℕ) → rows ≡ 8 → cols ≡ 8 → step ≡ 8 → a ≡ block_of original start pitch
    → upto (whole_distances c a blocks) 12 ≡ upto (trial_distances (Some c) rows cols original start pitch blocks step) 12
unfolding whole_distances trial_distances
whole_same c rows cols original a start pitch blocks step er ec es ea =
    upto-ext _ _ 12
    (λ t h. rw (ea, es) (weighted-same c _ _ _ _ (block-cell original start pitch) (λ m n hm hn. refl)) ∙ sym (cut-whole c rows cols (at original start pitch) (at blocks (t * 64) step) er ec))

-- a chroma block whose rows are the trial blocks' whole rows
pub packed-same : (rows cols : ℕ) (original : List ℕ) (start pitch : ℕ) (blocks : List ℕ) (step : ℕ) → step ≡ cols
    → upto (packed_distances original start pitch blocks rows cols) 12 ≡ upto (trial_distances None rows cols original start pitch blocks step) 12
unfolding packed_distances trial_distances cut_distance
packed-same rows cols original start pitch blocks step es = upto-ext _ _ 12 (λ t h. rw es)

-- the same of a part of the original, by whether it has weights
module _ (p : Part) (blocks : List ℕ) (step : ℕ) where
  weighted-as : (w : Option DistanceConstants) → p.weights ≡ w → upto (trial_distances w p.rows p.cols p.samples.now p.start p.pitch blocks step) 12 ≡ upto (part_distances p blocks step) 12
  weighted-as w e = ap (λ (v : Option DistanceConstants). upto (trial_distances v p.rows p.cols p.samples.now p.start p.pitch blocks step) 12) (sym e)

  pub part-whole : (c : DistanceConstants) (a : List ℕ) → p.weights ≡ Some c → p.rows ≡ 8 → p.cols ≡ 8 → step ≡ 8 → a ≡ block_of p.samples.now p.start p.pitch → upto (whole_distances c a blocks) 12 ≡ upto (part_distances p blocks step) 12
  part-whole c a e er ec es ea = whole_same c _ _ _ _ _ _ _ _ er ec es ea ∙ weighted-as (Some c) e

  pub part-packed : p.weights ≡ None → step ≡ p.cols → upto (packed_distances p.samples.now p.start p.pitch blocks p.rows p.cols) 12 ≡ upto (part_distances p blocks step) 12
  part-packed e es = packed-same _ _ _ _ _ _ _ es ∙ weighted-as None e

pub within-12 : (s : List ℕ) (start pitch rows cols step depth : ℕ) → pitch ≡ step → depth ≤ 12 → Within s start pitch rows cols (2 ^ depth) → Within s start step rows cols 4096
within-12 s start pitch rows cols step depth es d w =
    let v : Within s start step rows cols (2 ^ depth) = rw es at w in
    record { held = v.held; low = λ i j hi hj. lt_of_lt_of_le (v.low i j hi hj) (pow_mono {i = depth} {j = 12} d) }

-- the totals, from the distances in a list
pub listed-turns : (l : List ℕ) (base : ℕ) (f : ℕ → ℕ) (d : List ℕ) → d ≡ upto f 12 → add_turns l base (λ t. get_or d t 0) 12 ≡ add_turns l base f 12
listed-turns l base f d e = turns_same l base _ _ 12 (λ t h. rw e (get_or-upto f 12 t 0 h))

pub listed-low : (m : ℕ) (f : ℕ → ℕ) (d : List ℕ) → d ≡ upto f 12 → ((k : ℕ) → k < 12 → f k < m) → (t : ℕ) → t < 12 → get_or d t 0 < m
listed-low m f d e low t h = rw (e, get_or-upto f 12 t 0 h) (low t h)
