-- The distance of a block: as the code puts it together, and how large it is.
use Rattle.std.specs.Bool.{then_some}
use Rattle.std.specs.Prelude.{◌≡◌, Bool, true, false, cond, List, ℕ, ◌+◌, ◌-◌, ◌*◌, ◌^◌, ◌<◌, min, get_or, length, take, drop, Option}
use Rattle.std.proofs.Common.{refl, sym, ◌∙◌, arith}
use Rattle.cdef_spec.specs.declared.DistanceConstants.{DistanceConstants}
use Rattle.cdef_spec.specs.declared.SignalledDamping.{SignalledDamping}
use Rattle.cdef_spec.specs.declared.UnitPair.{UnitPair}
use Rattle.cdef_spec.specs.declared.Visible.{Visible}
use Rattle.cdef_spec.specs.Document01.{Plane, mark, or_else}
use Rattle.cdef_spec.specs.Distance.{constants_of}
use Rattle.cdef_spec.specs.FrameCalls.{scratch_length}
use Rattle.cdef_spec.specs.Picture.{Picture, is_off, plane_width, plane_height, block_width, block_height, block_rows, block_cols, visible_rows, visible_cols, at_place, filtered_by, block_distance}
use Rattle.cdef_spec.proofs.PictureLaws.{filtered-low}
use Rattle.distance_sums.specs.Blocks.{at}
use Rattle.distance_visible.specs.Cut.{cut_distance}
use Rattle.distance_visible.specs.CutLaws.{cut-same, cut_low, weights-of}
use Rattle.frame_part.specs.KindLaws.{cut-kind}
use Rattle.frame_shape.specs.Frame.{visible_part}
use Rattle.frame_shape.specs.Shape.{Shaped, Sampled, is_luma}
use Rattle.frame_shape.specs.ShapeLaws.{cols-in, rows_in, block-wide, block-high}
use Rattle.frame_shape.specs.SampledLaws.{sample-low}
use Rattle.measure_plane.specs.Measure.{row_sample, Filled, measured_distance}
use Rattle.measure_plane.specs.RowLaws.{plane-at, rows_at, own-is}

module _ (q : Picture) (h : Shaped q) (v : Visible) (by bx : ℕ) where
  abbrev rows : ℕ
  rows = min (block_height q) (visible_rows q v - by * block_height q)

  abbrev cols : ℕ
  cols = min (block_width q) (visible_cols q v - bx * block_width q)

  distance-as : (o d : ℕ → ℕ → ℕ) → block_distance q v by bx o d ≡ cut_distance (then_some (is_luma q.kind) (constants_of q.depth)) rows cols (λ i j. o (by * block_height q + i) (bx * block_width q + j)) (λ i j. d (by * block_height q + i) (bx * block_width q + j))
  unfolding block_distance
  distance-as o d = sym (cut-kind q.kind q.depth rows cols _ _)

  -- it depends on the block alone
  pub distance-same : (o d e : ℕ → ℕ → ℕ) → ((i j : ℕ) → i < block_height q → j < block_width q → d (by * block_height q + i) (bx * block_width q + j) ≡ e (by * block_height q + i) (bx * block_width q + j)) → block_distance q v by bx o d ≡ block_distance q v by bx o e
  distance-same o d e g = distance-as o d ∙ cut-same (then_some (is_luma q.kind) (constants_of q.depth)) rows cols _ _ _ _ (λ i j hi hj. refl) (λ i j hi hj. g i j (omega arith) (omega arith)) ∙ sym (distance-as o e)

  pub distance-low : (o d : ℕ → ℕ → ℕ) → ((i j : ℕ) → i < block_height q → j < block_width q → (o (by * block_height q + i) (bx * block_width q + j) < 2 ^ q.depth) × (d (by * block_height q + i) (bx * block_width q + j) < 2 ^ q.depth)) → block_distance q v by bx o d < 2 ^ 53
  distance-low o d g =
      rw (distance-as o d)
      (cut_low (then_some (is_luma q.kind) (constants_of q.depth)) q.depth rows cols _ _ (omega (arith, (block-high q h).1)) (omega (arith, (block-wide q h).1)) (weights-of (is_luma q.kind) _ _ (record { deep = h.deep; flat = h.flat; is = refl })) (λ i j hi hj. g i j (omega arith) (omega arith)))

  module _ (hy : by < block_rows q) (hx : bx < block_cols q) where
    -- as the code puts it together
    pub rows-distance : (rs : List ℕ) (o : Plane) → length rs ≡ scratch_length q → Sampled q o
        → (k : Option DistanceConstants) (n m : ℕ) (samples : List ℕ) (start w from r : ℕ) → k ≡ then_some (is_luma q.kind) (constants_of q.depth) → n ≡ (visible_part q v by bx).height → m ≡ (visible_part q v by bx).width → samples ≡ o.samples
        → start ≡ (visible_part q v by bx).y * plane_width q + (visible_part q v by bx).x → w ≡ plane_width q → from ≡ bx * block_width q
        → r ≡ cut_distance k n m (at samples start w) (at rs from w)
        → r ≡ block_distance q v by bx (at_place q o.samples) (row_sample q rs (by * block_height q))
    unfolding visible_part
    rows-distance rs o len go k n m samples start w from r ek en em eo es ew ef e =
        e
        ∙ rw (ek, en, em, eo, es, ew, ef)
        (cut-same (then_some (is_luma q.kind) (constants_of q.depth)) rows cols _ _ _ _ (λ i j hi hj. plane-at q h by bx hy hx o go i j) (λ i j hi hj. rows_at q h by bx hy hx rs len i j)
        ∙ sym (distance-as (at_place q o.samples) (row_sample q rs (by * block_height q))))

    -- ---- the measured one

    module _ (d : SignalledDamping) (p : UnitPair) (src o : Plane) where
      -- the rows hold the filtered block
      pub filtered : is_off p ≡ false → (rs : List ℕ) → Filled q d src.samples p by bx rs → block_distance q v by bx (at_place q o.samples) (row_sample q rs (by * block_height q)) ≡ measured_distance q d v src.samples o.samples p by bx
      unfolding measured_distance row_sample Filled
      filtered e rs g = rw e (distance-same _ _ _ (λ i j hi hj. let z : by * block_height q + i - by * block_height q ≡ i = omega arith in rw z (g i j hi hj)))

      -- or, with 0, 0, they are the plane's
      pub unfiltered : is_off p ≡ true → Sampled q src → (n : ℕ) → n ≡ scratch_length q → (rs : List ℕ) → rs ≡ take n (drop (by * block_height q * plane_width q) src.samples)
          → block_distance q v by bx (at_place q o.samples) (row_sample q rs (by * block_height q)) ≡ measured_distance q d v src.samples o.samples p by bx
      unfolding measured_distance
      unfiltered e g n len rs er = rw (e, er) (distance-same _ _ _ (λ i j hi hj. own-is q h by bx hy hx src g n len i j hi hj))

      pub measured-low : Sampled q src → Sampled q o → measured_distance q d v src.samples o.samples p by bx < 2 ^ 53
      unfolding measured_distance
      measured-low gp go = distance-low _ _ (λ i j hi hj. (wanted go i j, here (is_off p) i j hi hj))
        where
          wanted : Sampled q o → (i j : ℕ) → at_place q o.samples (by * block_height q + i) (bx * block_width q + j) < 2 ^ q.depth
          wanted s i j = unfold at_place in s.low _

          unmarked-all : (k : ℕ) → get_or src.samples k 0 < mark
          unmarked-all k = omega (arith, sample-low q h src gp k)

          here : (a : Bool) (i j : ℕ) → i < block_height q → j < block_width q → cond a (at_place q src.samples (by * block_height q + i) (bx * block_width q + j)) (or_else mark (filtered_by q d src.samples p by bx (by * block_height q + i) (bx * block_width q + j))) < 2 ^ q.depth
          here true i j hi hj = unfold at_place in gp.low _
          here false i j hi hj =
              let r : by * block_height q + i < plane_height q = omega (arith, rows_in q h by bx hy hx) in
              let c : bx * block_width q + j < plane_width q = omega (arith, cols-in q h by bx hy hx) in
              filtered-low q d src.samples p by bx (by * block_height q + i) (bx * block_width q + j) r c unmarked-all (2 ^ q.depth) gp.low mark
