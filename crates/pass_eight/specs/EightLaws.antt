-- Eight blocks side by side: the direction and the variance of a lane are those of its block, and the lists are filled further by eight.
use Rattle.std.specs.Prelude.{◌≡◌, List, [], ◌∷◌, ◌++◌, ℤ, pos, length, take}
use Rattle.std.proofs.Common.{sym, ap, ◌∙◌, append-nil, append_assoc}
use Rattle.std.proofs.lemmas.Slice.{take-put_mid}
use borrow.Rule.Slice.PartMut.{put_mid}
use Prim.Native.Nat.{ℕ, zero, suc, ◌+◌, ◌*◌, ◌/◌, ◌%◌, ◌≤◌, ◌<◌}
use native.Mathlib.Omega.{arith}
use Rattle.cdef_spec.specs.Standard.{direction, variance}
use Rattle.cdef_spec.specs.Document01.{Plane, direction_input, block_direction, block_variance}
use Rattle.cdef_spec.specs.DirectionLocal.{direction-same, variance-same}
use Rattle.arith_sample.specs.Upto.{upto, length-upto, get_or-upto, upto-at, upto-ext}
use Rattle.direction_lanes.specs.Lanes.{lanes_of}
use Rattle.direction_eight.specs.declared.Found8.{Found8}
use Rattle.direction_lane_sums.specs.Lines.{lane_of}
use Rattle.direction_eight.specs.Best.{found_by_samples}
use Rattle.pass_one.specs.Pass.{direction_at, variance_at, Filled}
use Rattle.pass_one.specs.PassLaws.{at_block}

module _ (p : Plane) (depth y x l : ℕ) (hl : l < 8) where
  lane-input : (i j : ℕ) → i < 8 → j < 8 → lane_of (lanes_of p depth y x) l i j ≡ direction_input p depth y (x + l * 8) i j
  unfolding lane_of lanes_of
  lane-input i j hi hj =
      let b : (i * 64 + j * 8 + l) / 64 ≡ i = omega arith in
      let c : (i * 64 + j * 8 + l) / 8 % 8 ≡ j = omega arith in
      let a : (i * 64 + j * 8 + l) % 8 ≡ l = omega arith in
      get_or-upto _ 512 (i * 64 + j * 8 + l) (pos 0) (omega arith) ∙ rw (a, b, c)

  -- the direction and the variance of a lane are those of its block
  lane-direction : direction (lane_of (lanes_of p depth y x) l) ≡ block_direction p depth y (x + l * 8)
  unfolding block_direction
  lane-direction = direction-same _ _ lane-input

  lane-variance : variance (lane_of (lanes_of p depth y x) l) ≡ block_variance p depth y (x + l * 8)
  unfolding block_variance
  lane-variance = variance-same _ _ lane-input

-- values listed one after the other
upto_join : (f : ℕ → ℕ) (a n : ℕ) → upto f a ++ upto (λ l. f (a + l)) n ≡ upto f (a + n)
unfolding upto
upto_join f a zero = let e : a ≡ a + 0 = omega arith in append-nil (upto f a) ∙ ap (upto f) e
upto_join f a (suc n) =
    let e : suc (a + n) ≡ a + suc n = omega arith in
    sym (append_assoc (upto f a) (upto (λ l. f (a + l)) n) (f (a + n) ∷ [])) ∙ rw (upto_join f a n) (ap (upto f) e)

-- a list whose first entries are f's, with eight more of them copied into it
filled-on : (f : ℕ → ℕ) (l ys : List ℕ) (at k : ℕ) → take at l ≡ upto f at → at ≤ length l → ys ≡ upto (λ n. f (at + n)) 8 → take (at + 8) (put_mid at k l ys) ≡ upto f (at + 8)
filled-on f l ys at k e h g = take-put_mid at k l ys (at + 8) (rw (g, length-upto (λ n. f (at + n)) 8)) h ∙ rw (e, g) (upto_join f at 8)

-- of the blocks bx to bx + 7 of row by
module _ (p : Plane) (depth cols by bx : ℕ) (hb : bx + 8 ≤ cols) (z : List ℤ) (f : Found8) (ez : z ≡ lanes_of p depth (by * 8) (bx * 8)) (ef : f ≡ found_by_samples z) where
  lane_place : (g : ℕ → ℕ → ℕ) (l : ℕ) → l < 8 → g (by * 8) (bx * 8 + l * 8) ≡ g ((by * cols + bx + l) / cols * 8) ((by * cols + bx + l) % cols * 8)
  lane_place g l hl =
      let a : bx * 8 + l * 8 ≡ (bx + l) * 8 = omega arith in
      let b : by * cols + bx + l ≡ by * cols + (bx + l) = omega arith in
      rw (a, b) (at_block g cols by (bx + l) (omega arith))

  found-directions : f.directions ≡ upto (λ l. direction_at p depth cols (by * cols + bx + l)) 8
  unfolding found_by_samples
  found-directions = rw (ef, ez) (upto-ext _ _ 8 (λ l hl. lane-direction p depth (by * 8) (bx * 8) l hl ∙ lane_place (block_direction p depth) l hl))

  found-variances : f.variances ≡ upto (λ l. variance_at p depth cols (by * cols + bx + l)) 8
  unfolding found_by_samples
  found-variances = rw (ef, ez) (upto-ext _ _ 8 (λ l hl. lane-variance p depth (by * 8) (bx * 8) l hl ∙ lane_place (block_variance p depth) l hl))

-- by eight blocks
module _ (p : Plane) (depth by bx : ℕ) (dirs vars : List ℕ) (t : Filled p depth (by * (p.width / 8) + bx) dirs vars) where
  pub filled-eight : {z : List ℤ} {f : Found8} {ds vs : List ℕ} (k m : ℕ) → bx + 8 ≤ p.width / 8 → by * (p.width / 8) + bx + 8 ≤ length dirs
      → by * (p.width / 8) + bx + 8 ≤ length vars → z ≡ lanes_of p depth (by * 8) (bx * 8) → f ≡ found_by_samples z → ds ≡ f.directions → vs ≡ f.variances
      → Filled p depth (by * (p.width / 8) + (bx + 8)) (put_mid (by * (p.width / 8) + bx) k dirs ds) (put_mid (by * (p.width / 8) + bx) m vars vs)
  filled-eight k m hb hd hv ez ef ed ev = record {
    dirs-are = upto-at _ _ _ _ (omega arith) (filled-on _ _ _ _ k t.dirs-are (omega arith) (ed ∙ found-directions p depth (p.width / 8) by bx hb _ _ ez ef));
    vars-are = upto-at _ _ _ _ (omega arith) (filled-on _ _ _ _ m t.vars-are (omega arith) (ev ∙ found-variances p depth (p.width / 8) by bx hb _ _ ez ef));
  }
