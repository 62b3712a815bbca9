-- Laws of the window's entries.
use Rattle.std.specs.Prelude.{◌≡◌, refl, Bool, cond, ◌&&◌, List, ◌⊎◌, ℕ, ◌+◌, ◌-◌, ◌*◌, ◌/◌, ◌%◌, ◌≤◌, ◌<◌, leb, get_or, length}
use Rattle.std.proofs.Common.{◌∙◌, inl, inr, mul_comm}
use Rattle.std.proofs.Math.Bool.{true, false}
use Rattle.std.proofs.Math.Decide.{dec_le}
use native.Mathlib.Omega.{arith}
use borrow.Author.Tests.{lt-ltb, le-ltb, le-leb, lt-leb}
use Rattle.std.proofs.Math.Dec.{ltb}
use Rattle.std.proofs.Math.Arith.{digits_lt}
use Rattle.cdef_spec.specs.declared.Block.{Block}
use Rattle.cdef_spec.specs.Document01.{Plane}
use Rattle.cdef_spec.specs.CodeForm.{sample_at}
use Rattle.arith_sample.specs.Bounds.{Held, Marked}
use Rattle.arith_sample.specs.Upto.{upto, upto-all-of}
use Rattle.filter_window.specs.declared.Span.{Span}
use Rattle.filter_window.specs.Window.{plane_of, window_at}
use Rattle.filter_window.specs.Spans.{SpanOf}

module _ (p : Plane) (b : Block) (i j : ℕ) (hj : j < 12) where
  -- by row and column
  pub window-at : window_at p b (i * 12 + j) ≡ cond (ltb i (b.height + 4) && ltb j (b.width + 4)) (sample_at p (b.y + i) (b.x + j)) 16384
  unfolding window_at
  window-at =
      let d : (i * 12 + j) / 12 ≡ i = omega arith in
      let m : (i * 12 + j) % 12 ≡ j = omega arith in
      rw (d, m)

  -- past the widened block
  pub window-below : b.height + 4 ≤ i → window_at p b (i * 12 + j) ≡ 16384
  window-below h = window-at ∙ rw (le-ltb i (b.height + 4) h)

  pub window-right : b.width + 4 ≤ j → window_at p b (i * 12 + j) ≡ 16384
  window-right h = window-at ∙ rw (le-ltb j (b.width + 4) h) (go (ltb i (b.height + 4)))
    where
      go : (t : Bool) → cond (t && false) (sample_at p (b.y + i) (b.x + j)) 16384 ≡ 16384
      go true = refl
      go false = refl

  pub window-in : i < b.height + 4 → j < b.width + 4 → window_at p b (i * 12 + j) ≡ sample_at p (b.y + i) (b.x + j)
  window-in h g = window-at ∙ rw (lt-ltb i (b.height + 4) h, lt-ltb j (b.width + 4) g)

-- a sample counted from two above and two left
module _ (p : Plane) (r c : ℕ) where
  pub sample-above : r < 2 → sample_at p r c ≡ 16384
  unfolding sample_at
  sample-above h = rw (lt-leb 2 r h)

  pub sample-below : 2 ≤ r → p.height + 2 ≤ r → sample_at p r c ≡ 16384
  unfolding sample_at
  sample-below h g = rw (le-leb 2 r h, le-ltb r (p.height + 2) g)

  pub sample-left : 2 ≤ r → r < p.height + 2 → c < 2 → sample_at p r c ≡ 16384
  unfolding sample_at
  sample-left h g k = rw (le-leb 2 r h, lt-ltb r (p.height + 2) g, lt-leb 2 c k)

  pub sample-right : 2 ≤ r → r < p.height + 2 → 2 ≤ c → p.width + 2 ≤ c → sample_at p r c ≡ 16384
  unfolding sample_at
  sample-right h g k l = rw (le-leb 2 r h, lt-ltb r (p.height + 2) g, le-leb 2 c k, le-ltb c (p.width + 2) l)

  pub sample_in : 2 ≤ r → r < p.height + 2 → 2 ≤ c → c < p.width + 2 → sample_at p r c ≡ get_or p.samples ((r - 2) * p.width + (c - 2)) 0
  unfolding sample_at
  sample_in h g k l = rw (le-leb 2 r h, lt-ltb r (p.height + 2) g, le-leb 2 c k, lt-ltb c (p.width + 2) l)

-- ---- by the rows and columns that are examined

module _ (s : List ℕ) (w h : ℕ) (b : Block) (i j : ℕ) (hj : j < 12) where
  -- where there is no sample, the mark
  window-mark : sample_at (plane_of s w h) (b.y + i) (b.x + j) ≡ 16384 → window_at (plane_of s w h) b (i * 12 + j) ≡ 16384
  window-mark e = window-at (plane_of s w h) b i j hj ∙ rw e (go (ltb i (b.height + 4) && ltb j (b.width + 4)))
    where
      go : (t : Bool) → ◌≡◌ {A = ℕ} (cond t 16384 16384) 16384
      go true = refl
      go false = refl

  module _ (r c : Span) (hr : SpanOf b.y b.height h r) (hc : SpanOf b.x b.width w c) where
    pub row_before : i < r.lo → window_at (plane_of s w h) b (i * 12 + j) ≡ 16384
    row_before l = window-mark (sample-above (plane_of s w h) (b.y + i) (b.x + j) (omega (arith, hr.from)))

    pub row-after : r.lo ≤ i → r.hi ≤ i → window_at (plane_of s w h) b (i * 12 + j) ≡ 16384
    row-after l g = go (dec_le (b.height + 4) i)
      where
        go : Dec (b.height + 4 ≤ i) → window_at (plane_of s w h) b (i * 12 + j) ≡ 16384
        go (yes k) = window-below (plane_of s w h) b i j hj k
        go (no k) = window-mark (sample-below (plane_of s w h) (b.y + i) (b.x + j) (omega (arith, hr.from)) (omega (arith, hr.to)))

    module _ (lo : r.lo ≤ i) (hi : i < r.hi) where
      pub col-before : j < c.lo → window_at (plane_of s w h) b (i * 12 + j) ≡ 16384
      col-before l = window-mark (sample-left (plane_of s w h) (b.y + i) (b.x + j) (omega (arith, hr.from)) (omega (arith, hr.to)) (omega (arith, hc.from)))

      pub col-after : c.lo ≤ j → c.hi ≤ j → window_at (plane_of s w h) b (i * 12 + j) ≡ 16384
      col-after l g = go (dec_le (b.width + 4) j)
        where
          go : Dec (b.width + 4 ≤ j) → window_at (plane_of s w h) b (i * 12 + j) ≡ 16384
          go (yes k) = window-right (plane_of s w h) b i j hj k
          go (no k) = window-mark (sample-right (plane_of s w h) (b.y + i) (b.x + j) (omega (arith, hr.from)) (omega (arith, hr.to)) (omega (arith, hc.from)) (omega (arith, hc.to)))

      pub looked : c.lo ≤ j → j < c.hi → window_at (plane_of s w h) b (i * 12 + j) ≡ get_or s ((b.y + i - 2) * w + (b.x + j - 2)) 0
      looked l g =
          window-in (plane_of s w h) b i j hj (omega (arith, hr.to)) (omega (arith, hc.to))
          ∙ sample_in (plane_of s w h) (b.y + i) (b.x + j) (omega (arith, hr.from)) (omega (arith, hr.to)) (omega (arith, hc.from)) (omega (arith, hc.to))

      pub looked-in : length s ≡ w * h → c.lo ≤ j → j < c.hi → (b.y + i - 2) * w + (b.x + j - 2) < length s
      looked-in e l g =
          let d = digits_lt {q = b.y + i - 2} {m = h} {r = b.x + j - 2} {c = w} (omega (arith, hr.from, hr.to)) (omega (arith, hc.from, hc.to)) in
          omega (arith, e, mul_comm w h, d)

-- ---- a plane whose samples are at most the mark

-- what holds of the samples and of the mark holds of a window's entries
module _ (P : ℕ → Type 0) (mark : P 16384) (p : Plane) (each : (k : ℕ) → P (get_or p.samples k 0)) where
  sample-all : (r c : ℕ) → P (sample_at p r c)
  unfolding sample_at
  sample-all r c = go (leb 2 r && (ltb r (p.height + 2) && (leb 2 c && ltb c (p.width + 2)))) ((r - 2) * p.width + (c - 2))
    where
      go : (b : Bool) (k : ℕ) → P (cond b (get_or p.samples k 0) 16384)
      go true k = each k
      go false k = mark

  entry-all : (b : Block) (k : ℕ) → P (window_at p b k)
  unfolding window_at
  entry-all b k = go (ltb (k / 12) (b.height + 4) && ltb (k % 12) (b.width + 4)) (sample_at p (b.y + k / 12) (b.x + k % 12)) (sample-all (b.y + k / 12) (b.x + k % 12))
    where
      go : (t : Bool) (n : ℕ) → P n → P (cond t n 16384)
      go true n h = h
      go false n h = mark

  pub window-all : (b : Block) → P 0 → (k : ℕ) → P (get_or (upto (window_at p b) 144) k 0)
  window-all b z = upto-all-of P (window_at p b) 144 0 (entry-all b) z

pub window-held : (p : Plane) → ((k : ℕ) → get_or p.samples k 0 ≤ 16384) → (b : Block) → Held (upto (window_at p b) 144)
window-held p low b = record { all = window-all (λ (v : ℕ). v ≤ 16384) (omega arith) p low b (omega arith) }

pub window-marked : (p : Plane) → ((k : ℕ) → get_or p.samples k 0 < 4096) → (b : Block) → Marked (upto (window_at p b) 144)
window-marked p low b = record { all = window-all (λ (v : ℕ). (v < 4096) ⊎ (v ≡ 16384)) (inr refl) p (λ k. inl (low k)) b (inl (omega arith)) }
