-- The trial blocks of a block hold the filtered samples, and their distances are those that the totals add up.
use Rattle.std.specs.Prelude.{◌≡◌, List, ℕ, ◌+◌, ◌-◌, ◌*◌, ◌^◌, ◌≤◌, ◌<◌}
use Rattle.std.specs.Bool.{then_some}
use Rattle.std.proofs.Math.Path.{refl, ap}
use Rattle.std.proofs.Common.{◌∙◌}
use Rattle.std.proofs.Math.Nat.{mul-le-mul}
use native.Mathlib.Omega.{arith}
use Rattle.std.proofs.Math.Arith.{digits_lt}
use Rattle.std.proofs.Math.ListN.{get_or, length}
use Rattle.cdef_spec.specs.declared.SignalledDamping.{SignalledDamping}
use Rattle.cdef_spec.specs.declared.Visible.{Visible}
use Rattle.cdef_spec.specs.WordsLaws.{length-table, get_or-table}
use Rattle.cdef_spec.specs.Document01.{Plane, mark, or_else, filtered, trial_pair}
use Rattle.cdef_spec.specs.Distance.{constants_of}
use Rattle.cdef_spec.proofs.TrialCallLaws.{trial-at}
use Rattle.cdef_spec.specs.Picture.{Picture, plane_width, block_width, block_height, block_rows, block_cols, block_at, at_place, plane_of, filtered_by, distance_of, block_distance}
use Rattle.cdef_spec.proofs.PictureLaws.{filtered-low}
use Rattle.distance_sums.specs.Blocks.{at, Within}
use Rattle.distance_visible.specs.CutLaws.{cut-same, cut-within, weights-of}
use Rattle.frame_shape.specs.Frame.{block_of, visible_part}
use Rattle.frame_shape.specs.Shape.{Shaped, Sampled, is_luma}
use Rattle.frame_shape.specs.FrameLaws.{tried-with}
use Rattle.frame_shape.specs.ShapeLaws.{block-wide, block-high, cols-in, rows_in}
use Rattle.frame_shape.specs.SampledLaws.{sample-low}
use Rattle.frame_part.specs.KindLaws.{cut-kind}
use Rattle.frame_part.specs.PartLaws.{part-rows, part-cols, part-sides, part_held}
use Rattle.try_totals.specs.Totals.{trial_distances}
use Rattle.try_one.specs.Trying.{tried_distance}
use Rattle.try_blocks.specs.TrialBlocks.{trial_blocks}

module _ (q : Picture) (h : Shaped q) (by bx : ℕ) (hy : by < block_rows q) (hx : bx < block_cols q) where
  pub part_step : (v : Visible) (cols step : ℕ) → cols ≡ (visible_part q v by bx).width → step ≡ block_width q → (cols ≤ step) × (step ≤ 8)
  part_step v cols step ec es = rw (ec, es) (part-cols q v by bx, (block-wide q h).1)

  module _ (d : SignalledDamping) (s : Plane) (g : Sampled q s) (out : List ℕ) where
    place-low : (t i j : ℕ) → t < 12 → i < block_height q → j < block_width q → t * 64 + (i * block_width q + j) < 768
    place-low t i j ht hi hj =
        let a : i * block_width q + j < block_height q * block_width q = digits_lt {q = i} {m = block_height q} {r = j} {c = block_width q} hi hj in
        let b : block_height q * block_width q ≤ 8 * 8 = mul-le-mul (block-high q h).1 (block-wide q h).1 in
        omega arith

    -- row i and column j of trial block t
    pub trial-cell : (t i j : ℕ) → t < 12 → i < block_height q → j < block_width q
        → at (trial_blocks q d s.samples by bx out) (t * 64) (block_width q) i j ≡ or_else mark (filtered_by q d s.samples (trial_pair t) by bx (by * block_height q + i) (bx * block_width q + j))
    unfolding at trial_blocks filtered_by block_of
    trial-cell t i j ht hi hj =
        let e : t * 64 + i * block_width q + j ≡ t * 64 + (i * block_width q + j) = omega arith in
        ap (λ (k : ℕ). get_or (trial_blocks q d s.samples by bx out) k 0) e
        ∙ get_or-table 768 _ 0 (t * 64 + (i * block_width q + j)) (place-low t i j ht hi hj)
        ∙ trial-at (plane_of q s.samples) (block_of q by bx) _ _ _ q.depth out t i j (block-high q h).1 (block-wide q h).1 hi hj
        ∙ ap (λ p. or_else mark (filtered (plane_of q s.samples) p (by * block_height q + i) (bx * block_width q + j))) (tried-with q.kind q.depth q.dirs d t (block_at q by bx))

    trials-long : length (trial_blocks q d s.samples by bx out) ≡ 768
    unfolding trial_blocks
    trials-long = length-table 768 _

    pub trial-in : (t : ℕ) → t < 12 → (v : Visible) → Within (trial_blocks q d s.samples by bx out) (t * 64) (block_width q) (visible_part q v by bx).height (visible_part q v by bx).width (2 ^ q.depth)
    trial-in t ht v = record {
      held = λ i hi.
          let a : i < block_height q = omega (arith, part-rows q v by bx) in
          let c : (visible_part q v by bx).width ≤ block_width q = part-cols q v by bx in
          let p = place-low t i (block_width q - 1) ht a (omega (arith, (block-wide q h).0)) in
          omega (arith, p, trials-long);
      low = λ i j hi hj.
          let a : i < block_height q = omega (arith, part-rows q v by bx) in
          let b : j < block_width q = omega (arith, part-cols q v by bx) in
          rw (trial-cell t i j ht a b) (filtered-low q d s.samples (trial_pair t) by bx _ _ (omega (arith, rows_in q h by bx hy hx)) (omega (arith, cols-in q h by bx hy hx)) (λ k. omega (arith, sample-low q h s g k)) (2 ^ q.depth) g.low mark);
    }

    pub trials-held : (t : ℕ) → t < 12 → (v : Visible) (rows cols depth step : ℕ) (blocks : List ℕ) → rows ≡ (visible_part q v by bx).height → cols ≡ (visible_part q v by bx).width → depth ≡ q.depth → step ≡ block_width q → blocks ≡ trial_blocks q d s.samples by bx out
        → Within blocks (t * 64) step rows cols (2 ^ depth)
    trials-held t ht v rows cols depth step blocks er ec ed es eb = rw (er, ec, ed, es, eb) (trial-in t ht v)

    module _ (v : Visible) (o : Plane) where
      same : (i j : ℕ) → at o.samples ((visible_part q v by bx).y * plane_width q + (visible_part q v by bx).x) (plane_width q) i j ≡ at_place q o.samples (by * block_height q + i) (bx * block_width q + j)
      unfolding at at_place visible_part
      same i j = ap (λ (k : ℕ). get_or o.samples k 0) (omega arith)

      back : (t : ℕ) → distance_of q.kind q.depth (visible_part q v by bx).height (visible_part q v by bx).width (λ i j. at_place q o.samples (by * block_height q + i) (bx * block_width q + j)) (λ i j. or_else mark (filtered_by q d s.samples (trial_pair t) by bx (by * block_height q + i) (bx * block_width q + j))) ≡ tried_distance q d v s.samples o.samples by bx t
      unfolding tried_distance block_distance visible_part
      back t = refl

      -- the code's distance is the one that the totals add up
      pub distance_is : (t : ℕ) → t < 12
          → trial_distances (then_some (is_luma q.kind) (constants_of q.depth)) (visible_part q v by bx).height (visible_part q v by bx).width o.samples ((visible_part q v by bx).y * plane_width q + (visible_part q v by bx).x) (plane_width q) (trial_blocks q d s.samples by bx out) (block_width q) t ≡ tried_distance q d v s.samples o.samples by bx t
      unfolding trial_distances
      distance_is t ht =
          cut-same (then_some (is_luma q.kind) (constants_of q.depth)) _ _ _ (λ i j. at_place q o.samples (by * block_height q + i) (bx * block_width q + j)) _ (λ i j. or_else mark (filtered_by q d s.samples (trial_pair t) by bx (by * block_height q + i) (bx * block_width q + j)))
          (λ i j hi hj. same i j)
          (λ i j hi hj. trial-cell t i j ht (omega (arith, part-rows q v by bx)) (omega (arith, part-cols q v by bx)))
          ∙ cut-kind q.kind q.depth _ _ _ _ ∙ back t

      pub distance-low : Sampled q o → (t : ℕ) → t < 12 → tried_distance q d v s.samples o.samples by bx t < 2 ^ 53
      unfolding trial_distances
      distance-low k t ht = rw (← distance_is t ht) (cut-within (then_some (is_luma q.kind) (constants_of q.depth)) q.depth _ _ _ _ _ _ _ _ (part-sides q v by bx h hy hx).0 (part-sides q v by bx h hy hx).1 (weights-of (is_luma q.kind) _ _ (record { deep = h.deep; flat = h.flat; is = refl })) (part_held q v by bx h hy hx o k _ _ refl refl) (trial-in t ht v))
