-- A sample of a block, shifted right by depth - 8, is below 256, and less 128 of magnitude at most 128.
use Rattle.std.specs.Prelude.{◌≡◌, refl, Bool, true, false, cond, List, ℕ, suc, ◌+◌, ◌-◌, ◌*◌, ◌/◌, ◌^◌, ◌≤◌, ◌<◌, ltb, pos, negsuc, nat_abs, ◌-ℤ◌}
use Rattle.std.proofs.Common.{ap, ◌∙◌, div-lt_iff_lt-mul, arith, pow_pos, pow-add}
use Rattle.cdef_spec.specs.Document01.{Plane, edge_sample, direction_input}
use Rattle.cdef_spec.specs.Questions.{cut_taken}
use Rattle.check_samples.specs.LookedLaws.{edge-low}

pub less-128 : (a : ℕ) → a < 256 → nat_abs (pos a -ℤ pos 128) ≤ 128
less-128 a h = go (ltb a 128) refl
  where
    go : (t : Bool) → ltb a 128 ≡ t → nat_abs (cond t (negsuc (128 - suc a)) (pos (a - 128))) ≤ 128
    go true e = omega arith
    go false e = omega arith

abbrev sized : List ℕ → ℕ → ℕ → Plane
sized s w h = record { samples = s; width = w; height = h }

module _ (s : List ℕ) (w h d y x : ℕ) (hy : y < h) (hx : x < w) (cut : cut_taken (sized s w h) d y x ≡ true) where
  pub shifted-low : 8 ≤ d → (i j : ℕ) → i < 8 → j < 8 → edge_sample (sized s w h) (y + i) (x + j) / 2 ^ (d - 8) < 256
  shifted-low hd i j hi hj =
      let e : d ≡ 8 + (d - 8) = omega arith in
      let f : 2 ^ d ≡ 256 * 2 ^ (d - 8) = ap (λ (n : ℕ). 2 ^ n) e ∙ pow-add 2 8 (d - 8) in
      (div-lt_iff_lt-mul {y = 256} (pow_pos (d - 8))).1 (rw (← f) (edge-low s w h d y x hy hx cut i j hi hj))

  pub input-small : 8 ≤ d → (i j : ℕ) → i < 8 → j < 8 → nat_abs (direction_input (sized s w h) d y x i j) ≤ 128
  unfolding direction_input
  input-small hd i j hi hj = less-128 _ (shifted-low hd i j hi hj)
