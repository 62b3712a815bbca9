-- Question 9 by the window: each entry is a sample of the depth or the mark exactly where each examined sample is.
use Rattle.std.specs.Prelude.{◌≡◌, refl, Bool, false, ◌||◌, ◌⊎◌, ltb, eqb, get_or}
use Rattle.std.proofs.Common.{sym, subst, ◌∙◌, inl, inr, arith, ltb-true, eqb-true, pow_mono}
use Rattle.std.proofs.Math.Bool.{true}
use Prim.Native.Nat.{ℕ, ◌+◌, ◌-◌, ◌*◌, ◌/◌, ◌%◌, ◌^◌, ◌≤◌, ◌<◌, min}
use Rattle.std.proofs.Math.Decide.{dec_lt, dec_le}
use Rattle.std.proofs.Math.ListN.{get_or-eq_default}
use Rattle.cdef_spec.specs.declared.Block.{Block}
use Rattle.cdef_spec.specs.Words.{every}
use Rattle.cdef_spec.specs.WordsLaws.{every-at, every-make}
use Rattle.cdef_spec.specs.Document01.{Plane, mark}
use Rattle.cdef_spec.specs.Questions.{sample_or_mark, looked_at, widened_taken}
use Rattle.arith_sample.specs.Bounds.{Marked}
use Rattle.arith_sample.specs.Upto.{upto, length-upto, get_or-upto}
use Rattle.filter_window.specs.Window.{window_at}
use Rattle.filter_window.specs.WindowLaws.{window-in, window-below, window-right, sample-above, sample-below, sample-left, sample-right, sample_in}

-- two tests that imply each other
pub test-same : (a b : Bool) → (a ≡ true → b ≡ true) → (b ≡ true → a ≡ true) → a ≡ b
test-same true b f g = sym (f refl)
test-same false true f g = g refl
test-same false false f g = refl

mark-taken : (depth : ℕ) → sample_or_mark depth 16384 ≡ true
unfolding sample_or_mark
mark-taken depth = go (ltb 16384 (2 ^ depth))
  where
    go : (b : Bool) → b || true ≡ true
    go true = refl
    go false = refl

-- an examined row or column, counted in the window
entry-low : (at n m i : ℕ) → n ≤ 8 → i < min (at + n + 2) m - (at - 2) → at - 2 + i + 2 - at < 12
entry-low at n m i hn hi = let k : i < at + n + 2 - (at - 2) = omega arith in go at n i hn k
  where
    go : (at n i : ℕ) → n ≤ 8 → i < at + n + 2 - (at - 2) → at - 2 + i + 2 - at < 12
    go at n i hn k = omega arith

under : (a b i : ℕ) → i < a - b → b + i < a
under a b i h = omega arith

le-add : (b i : ℕ) → b ≤ b + i
le-add b i = omega arith

window-place : (a b : ℕ) → a < 12 → b < 12 → a * 12 + b < 144
window-place a b h k = omega arith

taken-low : (depth : ℕ) → depth ≤ 12 → (v : ℕ) → sample_or_mark depth v ≡ true → (v < 4096) ⊎ (v ≡ 16384)
unfolding sample_or_mark
taken-low depth hd v t = by (ltb v (2 ^ depth)) refl t
  where
    by : (s : Bool) → ltb v (2 ^ depth) ≡ s → s || eqb v mark ≡ true → (v < 4096) ⊎ (v ≡ 16384)
    by true f t = let l : 2 ^ depth ≤ 2 ^ 12 = pow_mono {i = depth} {j = 12} hd in inl (omega (arith, ltb-true v (2 ^ depth) f))
    by false f t = inr (eqb-true v mark t)

module _ (p : Plane) (b : Block) (depth : ℕ) (hx : b.x < p.width) (hy : b.y < p.height) (hw : b.width ≤ 8) (hh : b.height ≤ 8) where
  -- the examined rows and columns
  abbrev r0 : ℕ
  r0 = b.y - 2

  abbrev r1 : ℕ
  r1 = min (b.y + b.height + 2) p.height

  abbrev c0 : ℕ
  c0 = b.x - 2

  abbrev c1 : ℕ
  c1 = min (b.x + b.width + 2) p.width

  -- the sample at row r and column c is in the window
  in_window : (r c : ℕ) → r0 ≤ r → r < r1 → c0 ≤ c → c < c1 → window_at p b ((r + 2 - b.y) * 12 + (c + 2 - b.x)) ≡ get_or p.samples (r * p.width + c) 0
  in_window r c a d e f =
      let i : b.y + (r + 2 - b.y) ≡ r + 2 = omega arith in
      let j : b.x + (c + 2 - b.x) ≡ c + 2 = omega arith in
      let k : r + 2 - 2 ≡ r = omega arith in
      let l : c + 2 - 2 ≡ c = omega arith in
      window-in p b (r + 2 - b.y) (c + 2 - b.x) (omega arith) (omega arith) (omega arith)
      ∙ rw (i, j) (sample_in p (r + 2) (c + 2) (omega arith) (omega arith) (omega arith) (omega arith) ∙ rw (k, l))

  to-looked : every 144 (λ k. sample_or_mark depth (get_or (upto (window_at p b) 144) k 0)) ≡ true → widened_taken p depth b ≡ true
  unfolding widened_taken looked_at
  to-looked e = every-make (r1 - r0) _ (λ i hi. every-make (c1 - c0) _ (λ j hj.
      let k : ℕ = (r0 + i + 2 - b.y) * 12 + (c0 + j + 2 - b.x) in
      let h : k < 144 = window-place _ _ (entry-low b.y b.height p.height i hh hi) (entry-low b.x b.width p.width j hw hj) in
      let g : sample_or_mark depth (get_or (upto (window_at p b) 144) k 0) ≡ true = every-at 144 (λ k. sample_or_mark depth (get_or (upto (window_at p b) 144) k 0)) e k h in
      rw (← in_window (r0 + i) (c0 + j) (le-add r0 i) (under r1 r0 i hi) (le-add c0 j) (under c1 c0 j hj), ← get_or-upto (window_at p b) 144 k 0 h) g))

  -- an entry is the mark, or an examined sample
  entry-taken : widened_taken p depth b ≡ true → (i j : ℕ) → j < 12 → sample_or_mark depth (window_at p b (i * 12 + j)) ≡ true
  unfolding widened_taken looked_at
  entry-taken e i j hj = go (dec_lt i (b.height + 4)) (dec_lt j (b.width + 4)) (dec_le 2 (b.y + i)) (dec_lt (b.y + i) (p.height + 2)) (dec_le 2 (b.x + j)) (dec_lt (b.x + j) (p.width + 2))
    where
      by-mark : window_at p b (i * 12 + j) ≡ 16384 → sample_or_mark depth (window_at p b (i * 12 + j)) ≡ true
      by-mark h = rw h (mark-taken depth)

      go : Dec (i < b.height + 4) → Dec (j < b.width + 4) → Dec (2 ≤ b.y + i) → Dec (b.y + i < p.height + 2) → Dec (2 ≤ b.x + j) → Dec (b.x + j < p.width + 2) → sample_or_mark depth (window_at p b (i * 12 + j)) ≡ true
      go (no g) s t u v w = by-mark (window-below p b i j hj (omega arith))
      go (yes a) (no g) t u v w = by-mark (window-right p b i j hj (omega arith))
      go (yes a) (yes d) (no g) u v w = by-mark (window-in p b i j hj a d ∙ sample-above p (b.y + i) (b.x + j) (omega arith))
      go (yes a) (yes d) (yes f) (no g) v w = by-mark (window-in p b i j hj a d ∙ sample-below p (b.y + i) (b.x + j) f (omega arith))
      go (yes a) (yes d) (yes f) (yes h) (no g) w = by-mark (window-in p b i j hj a d ∙ sample-left p (b.y + i) (b.x + j) f h (omega arith))
      go (yes a) (yes d) (yes f) (yes h) (yes k) (no g) = by-mark (window-in p b i j hj a d ∙ sample-right p (b.y + i) (b.x + j) f h k (omega arith))
      go (yes a) (yes d) (yes f) (yes h) (yes k) (yes l) =
          let m : ℕ = b.y + i - 2 - r0 in
          let n : ℕ = b.x + j - 2 - c0 in
          let x : r0 + m ≡ b.y + i - 2 = omega arith in
          let y : c0 + n ≡ b.x + j - 2 = omega arith in
          rw (window-in p b i j hj a d ∙ sample_in p (b.y + i) (b.x + j) f h k l, ← x, ← y)
          (every-at (c1 - c0) (λ j. sample_or_mark depth (get_or p.samples ((r0 + m) * p.width + (c0 + j)) 0)) (every-at (r1 - r0) (λ i. every (c1 - c0) (λ j. sample_or_mark depth (get_or p.samples ((r0 + i) * p.width + (c0 + j)) 0))) e m (omega arith)) n (omega arith))

  from-looked : widened_taken p depth b ≡ true → every 144 (λ k. sample_or_mark depth (get_or (upto (window_at p b) 144) k 0)) ≡ true
  from-looked e = every-make 144 _ (λ k h.
      let d : k ≡ k / 12 * 12 + k % 12 = omega arith in
      rw (get_or-upto (window_at p b) 144 k 0 h) (subst (λ (n : ℕ). sample_or_mark depth (window_at p b n) ≡ true) (sym d) (entry-taken e (k / 12) (k % 12) (omega arith))))

  -- QUESTION 9 BY THE WINDOW
  pub window-taken-is : every 144 (λ k. sample_or_mark depth (get_or (upto (window_at p b) 144) k 0)) ≡ widened_taken p depth b
  window-taken-is = test-same _ _ to-looked from-looked

  -- so that each entry is a sample or the mark
  pub window-marked : depth ≤ 12 → every 144 (λ k. sample_or_mark depth (get_or (upto (window_at p b) 144) k 0)) ≡ true → Marked (upto (window_at p b) 144)
  window-marked hd e = record { all = λ k. go k (dec_lt k 144) }
    where
      go : (k : ℕ) → Dec (k < 144) → (get_or (upto (window_at p b) 144) k 0 < 4096) ⊎ (get_or (upto (window_at p b) 144) k 0 ≡ 16384)
      go k (yes h) = taken-low depth hd _ (every-at 144 (λ k. sample_or_mark depth (get_or (upto (window_at p b) 144) k 0)) e k h)
      go k (no g) = inl (rw (get_or-eq_default (upto (window_at p b) 144) 0 {n = k} (omega (arith, length-upto (window_at p b) 144))) (omega arith))
