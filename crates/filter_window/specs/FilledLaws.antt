-- A window that is filled from its first entry on, in an array that holds the mark.
use Rattle.std.specs.Prelude.{◌≡◌, List, ℕ, ◌+◌, ◌-◌, ◌*◌, ◌/◌, ◌%◌, ◌≤◌, ◌<◌, length, get_or, set, replicate}
use Rattle.std.proofs.Common.{sym, ap, ◌∙◌, ⊎_elim, mul_comm, arith, length-set, ext_get_or, get_or-set_same, get_or-set_other}
use Rattle.std.proofs.Math.Decide.{dec_lt, ℕ_discrete}
use Rattle.std.proofs.Math.Arith.{digits_lt}
use Rattle.std.proofs.lemmas.List.{length-replicate, get_or-replicate}
use Rattle.std.proofs.lemmas.List.{places}
use Rattle.std.proofs.lemmas.List.Edits.{length-between, get_or-between}
use Rattle.std.specs.List.{between}
use borrow.Rule.Slice.PartMut.{put_mid}
use Rattle.cdef_spec.specs.declared.Block.{Block}
use Rattle.cdef_spec.specs.Document01.{Plane}
use Rattle.filter_window.specs.declared.Span.{Span}
use Rattle.arith_sample.specs.Upto.{upto, length-upto, get_or-upto}
use Rattle.filter_window.specs.Window.{plane_of, window_at}
use Rattle.cdef_spec.specs.declared.full.FullPlane.{FullPlane}
use Rattle.filter_window.specs.Spans.{InPlane, BeginsIn, Inside, SpanOf, Filled}
use Rattle.filter_window.specs.WindowLaws.{window-in, window-right, window-below, sample_in, row_before, row-after, col-before, col-after, looked, looked-in}

module _ (p : Plane) (b : Block) where
  pub filled_none : Filled p b 0 (replicate 144 16384)
  filled_none = record { long = length-replicate {A = ℕ} 144 16384; done = λ k h. absurd (omega arith); rest = λ k a h. get_or-replicate 144 k 16384 0 h }

  -- the same count, written otherwise
  pub filled_at : (n m : ℕ) (out : List ℕ) → n ≡ m → Filled p b n out → Filled p b m out
  filled_at n m out e f = rw e at f

  -- one entry more
  pub filled_more : (n v : ℕ) (out : List ℕ) → Filled p b n out → n < 144 → v ≡ window_at p b n → Filled p b (n + 1) (set out n v)
  filled_more n v out f h e = record {
    long = length-set out n v ∙ f.long;
    done = λ k l. go k l (ℕ_discrete k n);
    rest = λ k l g. get_or-set_other out n k v 0 (omega arith) ∙ f.rest k (omega arith) g;
  }
    where
      go : (k : ℕ) → k < n + 1 → Dec (k ≡ n) → get_or (set out n v) k 0 ≡ window_at p b k
      go k l (yes q) = rw q (get_or-set_same out n v 0 (omega (arith, f.long)) ∙ e)
      go k l (no q) = get_or-set_other out n k v 0 (omega arith) ∙ f.done k (omega arith)

  -- k entries more, written at once
  pub filled_run : (n k : ℕ) (out ys : List ℕ) → Filled p b n out → n + k ≤ 144 → length ys ≡ k → ((j : ℕ) → j < k → get_or ys j 0 ≡ window_at p b (n + j)) → Filled p b (n + k) (put_mid n k out ys)
  filled_run n k out ys f h e each = record {
    long = grind (arith, places, f.long, e, h);
    done = λ i l. go i l (dec_lt i n);
    rest = λ i l g. grind (arith, places, f.long, e, h, f.rest i (omega arith) g);
  }
    where
      go : (i : ℕ) → i < n + k → Dec (i < n) → get_or (put_mid n k out ys) i 0 ≡ window_at p b i
      go i l (yes q) = grind (arith, places, f.long, e, h, f.done i q)
      go i l (no q) =
          let r : n + (i - n) ≡ i = omega arith in
          grind (arith, places, f.long, e, h, r, each (i - n) (omega arith))

  -- entries that are marks
  pub filled-skip : (n m : ℕ) (out : List ℕ) → Filled p b n out → n ≤ m → m ≤ 144 → ((k : ℕ) → n ≤ k → k < m → window_at p b k ≡ 16384) → Filled p b m out
  filled-skip n m out f g h marks = record {
    long = f.long;
    done = λ k l. go k l (dec_lt k n);
    rest = λ k l t. f.rest k (omega arith) t;
  }
    where
      go : (k : ℕ) → k < m → Dec (k < n) → get_or out k 0 ≡ window_at p b k
      go k l (yes q) = f.done k q
      go k l (no q) = f.rest k (omega arith) (omega arith) ∙ sym (marks k (omega arith) l)

  pub filled-all : (out : List ℕ) → Filled p b 144 out → out ≡ upto (window_at p b) 144
  filled-all out f =
      ext_get_or 0 out (upto (window_at p b) 144) (f.long ∙ sym (length-upto (window_at p b) 144))
      (λ k h. let g : k < 144 = omega (arith, f.long) in f.done k g ∙ sym (get_or-upto (window_at p b) 144 k 0 g))

  -- the end of a row of a block four wide, and the rows past the examined ones
  pub filled_row : b.width ≡ 4 → (i : ℕ) (out : List ℕ) → i < 12 → Filled p b (i * 12 + 8) out → Filled p b (i * 12 + 12) out
  filled_row e i out hi f = filled-skip (i * 12 + 8) (i * 12 + 12) out f (omega arith) (omega arith) (λ k l g.
      let q : i * 12 + (k - i * 12) ≡ k = omega arith in
      ap (window_at p b) (sym q) ∙ window-right p b i (k - i * 12) (omega arith) (omega arith))

  pub filled-end : (out : List ℕ) → b.height ≤ 8 → Filled p b ((b.height + 4) * 12) out → out ≡ upto (window_at p b) 144
  filled-end out hh f = filled-all out (filled-skip ((b.height + 4) * 12) 144 out f (omega arith) (omega arith) (λ k l g.
      let q : k / 12 * 12 + k % 12 ≡ k = omega arith in
      ap (window_at p b) (sym q) ∙ window-below p b (k / 12) (k % 12) (omega arith) (omega arith)))

-- a block that begins in a plane
pub in-plane : (p : FullPlane) (b : Block) → BeginsIn p b → InPlane p.samples.now p.width p.height b
in-plane p b s = record { full = p.full; wide = p.sides.0; high = p.sides.1; x-in = s.x-in; y-in = s.y-in; bw = s.bw; bh = s.bh }

-- four wide or more
pub inside-wide : (w h : ℕ) (b : Block) → Inside w h b → 4 ≤ b.width
inside-wide w h b r = ⊎_elim (λ e. omega arith) (λ e. omega arith) r.width

-- not eight wide
pub inside-four : (w h : ℕ) (b : Block) → Inside w h b → (b.width ≡ 8 → ⊥) → b.width ≡ 4
inside-four w h b r n = ⊎_elim (λ e. e) (λ e. absurd (n e)) r.width

-- ---- row i and column j of a block inside a plane
module _ (s : List ℕ) (w h : ℕ) (b : Block) (q : InPlane s w h b) (r : Inside w h b) (i j : ℕ) (hi : i < b.height + 4) (hj : j < b.width + 4) where
  -- lies in the plane
  pub inside-low : (b.y + i - 2) * w + (b.x - 2) + j < length s
  inside-low =
      let d = digits_lt {q = b.y + i - 2} {m = h} {r = b.x - 2 + j} {c = w} (omega (arith, r.top, r.bottom)) (omega (arith, r.left, r.right)) in
      omega (arith, d, q.full, mul_comm w h)

  -- and is the window's entry
  pub inside_is : get_or s ((b.y + i - 2) * w + (b.x - 2) + j) 0 ≡ window_at (plane_of s w h) b (i * 12 + j)
  inside_is =
      let p = plane_of s w h in
      let k : (b.y + i - 2) * w + (b.x - 2) + j ≡ (b.y + i - 2) * w + (b.x + j - 2) = omega (arith, r.left) in
      rw k
      (sym
      (window-in p b i j (omega (arith, q.bw)) hi hj
      ∙ sample_in p (b.y + i) (b.x + j) (omega (arith, r.top)) (omega (arith, r.bottom)) (omega (arith, r.left)) (omega (arith, r.right))))

-- ---- a run of the samples of row i of such a block, from column c on and below column d, copied into the window
module _ (s : List ℕ) (w h : ℕ) (b : Block) (q : InPlane s w h b) (r : Inside w h b) (i c d a e n k : ℕ) (out ys : List ℕ) (hi : i < b.height + 4) (hc : c < d) (hd : d ≤ b.width + 4) where
  pub row_run : a ≡ (b.y + i - 2) * w + (b.x - 2) + c → e ≡ (b.y + i - 2) * w + (b.x - 2) + d → n ≡ i * 12 + c → k ≡ d - c → ys ≡ between a e s → Filled (plane_of s w h) b (i * 12 + c) out → Filled (plane_of s w h) b (i * 12 + d) (put_mid n k out ys)
  row_run ea ee en ek ey f =
      let p = plane_of s w h in
      let l : e ≤ length s = omega (arith, inside-low s w h b q r i (d - 1) hi (omega arith)) in
      let m : length ys ≡ k = rw ey (length-between s a e l ∙ omega arith) in
      filled_at p b (n + k) (i * 12 + d) _ (omega arith) (filled_run p b n k out ys (filled_at p b (i * 12 + c) n _ (omega arith) f) (omega (arith, q.bh, q.bw)) m (λ j g.
      let t : a + j ≡ (b.y + i - 2) * w + (b.x - 2) + (c + j) = omega arith in
      let u : n + j ≡ i * 12 + (c + j) = omega arith in
      rw ey (get_or-between s a e j 0 (omega arith) ∙ rw (t, u) (inside_is s w h b q r i (c + j) hi (omega arith)))))

-- a block that begins in a full plane
pub begins-in : (p : FullPlane) (b : Block) → InPlane p.samples.now p.width p.height b → BeginsIn p b
begins-in p b i = record { x-in = i.x-in; y-in = i.y-in; bw = i.bw; bh = i.bh }

-- ---- the window of any block, filled row by row with the columns that are examined
module _ (s : List ℕ) (w h : ℕ) (b : Block) (q : InPlane s w h b) (r c : Span) (hr : SpanOf b.y b.height h r) (hc : SpanOf b.x b.width w c) where
  abbrev p : Plane
  p = plane_of s w h

  -- entry n, by its row and column
  by-place : (n v : ℕ) → window_at p b (n / 12 * 12 + n % 12) ≡ v → window_at p b n ≡ v
  by-place n v e = let m : n / 12 * 12 + n % 12 ≡ n = omega arith in rw m at e

  pub edge-first : Filled p b (r.lo * 12) (replicate 144 16384)
  edge-first = filled-skip p b 0 (r.lo * 12) _ (filled_none p b) (omega arith) (omega (arith, hr.from)) (λ n a l. by-place n _ (row_before s w h b _ _ (omega arith) r c hr hc (omega arith)))

  pub edge-last : (out : List ℕ) → Filled p b (r.hi * 12) out → out ≡ upto (window_at p b) 144
  edge-last out f = filled-all p b out (filled-skip p b (r.hi * 12) 144 out f (omega (arith, hr.to, q.bh)) (omega arith) (λ n a l. by-place n _ (row-after s w h b _ _ (omega arith) r c hr hc (omega (arith, hr.from, hr.to, q.y-in)) (omega arith))))

  module _ (i : ℕ) (lo : r.lo ≤ i) (hi : i < r.hi) where
    -- row i lies in the plane
    pub edge-in : (b.y + i - 2) * w + (b.x + c.lo - 2) + (c.hi - c.lo) ≤ length s
    edge-in =
        let d = looked-in s w h b i (c.hi - 1) (omega (arith, hc.to, q.bw)) r c hr hc lo hi q.full (omega (arith, hc.from, hc.to, q.x-in)) (omega (arith, hc.from, hc.to, q.x-in)) in
        omega (arith, d, hc.from, hc.to, q.x-in)

    pub edge-row : (a e n k : ℕ) (out ys : List ℕ) → Filled p b (i * 12) out → a ≡ (b.y + i - 2) * w + (b.x + c.lo - 2) → e ≡ a + (c.hi - c.lo) → n ≡ i * 12 + c.lo → k ≡ c.hi - c.lo → ys ≡ between a e s → Filled p b ((i + 1) * 12) (put_mid n k out ys)
    edge-row a e n k out ys f ea ee en ek ey =
        let l : e ≤ length s = omega (arith, edge-in) in
        let m : length ys ≡ k = rw ey (length-between s a e l ∙ omega arith) in
        let before = filled-skip p b (i * 12) n out f (omega arith) (omega (arith, hr.to, hc.from, q.bh)) (λ v x y. by-place v _ (
        let t : v / 12 ≡ i = omega (arith, hc.from) in
        let u : v % 12 ≡ v - i * 12 = omega (arith, hc.from) in
        rw (t, u) (col-before s w h b i (v - i * 12) (omega (arith, hc.from)) r c hr hc lo hi (omega arith)))) in
        let there = filled_run p b n k out ys before (omega (arith, hr.to, hc.to, hc.from, q.bh, q.bw, q.x-in)) m (λ j g.
        let z : a + j ≡ (b.y + i - 2) * w + (b.x + (c.lo + j) - 2) = omega (arith, hc.from) in
        let u : n + j ≡ i * 12 + (c.lo + j) = omega arith in
        rw ey (get_or-between s a e j 0 (omega arith) ∙ rw (z, u) (sym (looked s w h b i (c.lo + j) (omega (arith, hc.to, q.bw)) r c hr hc lo hi (omega arith) (omega arith))))) in
        filled-skip p b (n + k) ((i + 1) * 12) _ there (omega (arith, hc.to, hc.from, q.bw, q.x-in)) (omega (arith, hr.to, q.bh)) (λ v x y. by-place v _ (
        let t : v / 12 ≡ i = omega (arith, hc.from) in
        let u : v % 12 ≡ v - i * 12 = omega (arith, hc.from) in
        rw (t, u) (col-after s w h b i (v - i * 12) (omega arith) r c hr hc lo hi (omega (arith, hc.from, hc.to, q.x-in)) (omega (arith, hc.from, hc.to, q.x-in)))))
