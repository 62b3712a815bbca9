-- The totals of a checked input: what a counted block adds, and that no total becomes too large.
use Rattle.std.specs.Prelude.{◌≡◌, true, Option, ℕ, ◌+◌, ◌*◌, ◌^◌, ◌≤◌, ◌<◌, ℤ, List, []}
use Rattle.std.specs.Bool.{then_some}
use Rattle.std.proofs.Common.{ap, ◌∙◌, arith}
use Rattle.cdef_spec.specs.declared.DistanceConstants.{DistanceConstants}
use Rattle.cdef_spec.specs.Distance.{constants_of}
use Rattle.cdef_spec.specs.Lent.{plane_in_full}
use Rattle.cdef_spec.specs.Picture.{Picture, plane_width, block_width, block_rows, block_cols, units, unit_at, counted}
use Rattle.cdef_spec.specs.LoopForm.{signed, add_turns}
use Rattle.cdef_spec.specs.GeometryLaws.{unit-low}
use Rattle.arith_totals.specs.FoldLaws.{turns_same}
use Rattle.arith_totals.specs.TotalBounds.{try-low}
use Rattle.arith_totals.specs.Turns.{plain_of, Low}
use Rattle.arith_totals.specs.TurnLaws.{plain-signed, low_signed}
use Rattle.frame_shape.specs.declared.inputs.CompareInput.{CompareInput}
use Rattle.frame_shape.specs.Checked.{compare_in}
use Rattle.frame_shape.specs.Frame.{visible_part}
use Rattle.frame_shape.specs.Shape.{is_luma}
use Rattle.frame_shape.specs.ShapeLaws.{units-few}
use Rattle.try_blocks.specs.TrialBlocks.{trial_blocks}
use Rattle.try_totals.specs.Totals.{trial_distances}
use Rattle.try_one.specs.Trying.{tried_distance, tried_rows, tried_blocks}
use Rattle.try_one.specs.Trying.{blocks_tried}
use Rattle.try_one.specs.TryLaws.{blocks_more}
use Rattle.try_one.specs.DistanceLaws.{distance_is, distance-low}

module _ (i : CompareInput) where
  abbrev q : Picture
  q = compare_in i

  abbrev snapshot : List ℕ
  snapshot = i.filter.plane.samples.now

  abbrev original : List ℕ
  original = i.original.samples.now

  each : (by bx t : ℕ) → by < block_rows q → bx < block_cols q → counted q i.visible by bx ≡ true → t < 12 → tried_distance q i.filter.damping i.visible snapshot original by bx t ≤ 2 ^ 53
  unfolding plane_in_full
  each by bx t hy hx e ht = omega (arith, distance-low q i.filter.listed.shaped.shaped by bx hy hx i.filter.damping (plane_in_full i.filter.plane) i.filter.sampled [] i.visible (plane_in_full i.original) i.original_sampled t ht)

  pub low : (m n : ℕ) → m < block_rows q → n ≤ block_cols q → Low (signed (blocks_tried i m n))
  unfolding tried_blocks tried_rows
  low m n hm hn = low_signed _ (λ k. try-low q i.visible (tried_distance q i.filter.damping i.visible snapshot original) (2 ^ 53) each m n k hm hn)

  -- a block's unit has its twelve totals
  pub base-in : (m n : ℕ) → m < block_rows q → n < block_cols q → (12 * unit_at q m n + 12 ≤ 12 * units q) × (units q ≤ 4096)
  base-in m n hm hn = (omega (arith, unit-low q m n hm hn), units-few q i.filter.listed.shaped.shaped)

  -- what a counted block leaves, as the code computes it
  pub added : (m n : ℕ) → m < block_rows q → n < block_cols q → counted q i.visible m n ≡ true → (l : List ℤ) → l ≡ signed (blocks_tried i m n)
      → (base start w rows cols step : ℕ) (samples : List ℕ) (v : Option DistanceConstants) (blocks out : List ℕ) → base ≡ 12 * unit_at q m n → start ≡ (visible_part q i.visible m n).y * plane_width q + (visible_part q i.visible m n).x → w ≡ plane_width q
      → rows ≡ (visible_part q i.visible m n).height → cols ≡ (visible_part q i.visible m n).width → step ≡ block_width q → samples ≡ original → v ≡ then_some (is_luma q.kind) (constants_of q.depth) → blocks ≡ trial_blocks q i.filter.damping snapshot m n out
      → signed (add_turns (plain_of l) base (trial_distances v rows cols samples start w blocks step) 12) ≡ signed (blocks_tried i m (n + 1))
  unfolding plane_in_full
  added m n hm hn e l el base start w rows cols step samples v blocks out eb est ew er ec es eo ev et =
      rw (el, eb, est, ew, er, ec, es, eo, ev, et, plain-signed (blocks_tried i m n))
      (ap signed (turns_same _ _ _ _ 12 (λ t ht. distance_is q i.filter.listed.shaped.shaped m n hm hn i.filter.damping (plane_in_full i.filter.plane) i.filter.sampled out i.visible (plane_in_full i.original) t ht) ∙ blocks_more q i.filter.damping i.visible snapshot original m n e))
