-- Laws of strips that are filled entry by entry.
use Rattle.std.specs.Prelude.{◌≡◌, refl, ◌⊎◌, List, ℕ, zero, suc, ◌+◌, ◌-◌, ◌*◌, ◌/◌, ◌%◌, ◌≤◌, ◌<◌, get_or, length, set, replicate, take, drop}
use Rattle.std.proofs.Common.{sym, ap, ◌∙◌, ⊎_elim, mul-le-mul, mul-le-mul_right, arith, get_or-set_same, get_or-set_other}
use Rattle.std.proofs.Math.Decide.{ℕ_discrete}
use Rattle.std.proofs.Math.Seq.{get_or-take, get_or-drop}
use Rattle.std.proofs.Math.Arith.{digits_div, digits_mod}
use Rattle.trial_strips.specs.Strips.{Strips, Filled}

-- rows and columns of an entry are what they are
module _ (n w : ℕ) (x i l y k m : ℕ) (hi : i < n) (hl : l < w) (hk : k < n) (hm : m < w) (e : (x * n + i) * w + l ≡ (y * n + k) * w + m) where
  col-same : l ≡ m
  col-same = sym (digits_mod (x * n + i) {m = w} {r = l} hl) ∙ ap (λ (a : ℕ). a % w) e ∙ digits_mod (y * n + k) {m = w} {r = m} hm

  row_same : x * n + i ≡ y * n + k
  row_same = sym (digits_div (x * n + i) {m = w} {r = l} hl) ∙ ap (λ (a : ℕ). a / w) e ∙ digits_div (y * n + k) {m = w} {r = m} hm

  pub entry-same : (x ≡ y) × (i ≡ k) × (l ≡ m)
  entry-same =
      let a : x ≡ y = sym (digits_div x {m = n} {r = i} hi) ∙ ap (λ (a : ℕ). a / n) row_same ∙ digits_div y {m = n} {r = k} hk in
      let b : i ≡ k = sym (digits_mod x {m = n} {r = i} hi) ∙ ap (λ (a : ℕ). a % n) row_same ∙ digits_mod y {m = n} {r = k} hk in
      (a, b, col-same)

-- a row of five strips
pub row_in : (x n i : ℕ) → x < 5 → i < n → n ≤ 12 → x * n + i ≤ 59
row_in x n i hx hi hn =
    let a : x ≤ 4 = omega arith in
    omega (arith, mul-le-mul_right n a)

-- four or eight wide, it ends within 480 entries
pub row-end : (x n i w : ℕ) → x < 5 → i < n → n ≤ 12 → (w ≡ 4) ⊎ (w ≡ 8) → (x * n + i) * w + w ≤ 480
row-end x n i w hx hi hn e =
    let a : x * n + i + 1 ≤ 60 = omega (arith, row_in x n i hx hi hn) in
    let b : w ≤ 8 = ⊎_elim (λ q. omega arith) (λ q. omega arith) e in
    omega (arith, mul-le-mul a b)

-- four wide or more; and not eight wide
pub wide : (w : ℕ) → (w ≡ 4) ⊎ (w ≡ 8) → 4 ≤ w
wide w e = ⊎_elim (λ q. omega arith) (λ q. omega arith) e

pub four : (w : ℕ) → (w ≡ 4) ⊎ (w ≡ 8) → (w ≡ 8 → ⊥) → 4 ≡ w
four w e n = ⊎_elim (λ q. sym q) (λ q. absurd (n q)) e

pub no-entry : (m k : ℕ) → get_or {A = ℕ} (replicate m 0) k 0 ≡ 0
no-entry zero k = refl
no-entry (suc m) zero = refl
no-entry (suc m) (suc k) = no-entry m k

-- an index, its sum in another order
pub at_same : (win : List ℕ) (i x j : ℕ) → get_or win (i * 12 + x + j) 0 ≡ get_or win (i * 12 + (x + j)) 0
at_same win i x j = let e : i * 12 + x + j ≡ i * 12 + (x + j) = omega arith in rw e

-- an entry of the four that a loop goes over
pub four-at : (win : List ℕ) (from i x j : ℕ) → from ≡ i * 12 + x → j < 4 → get_or (take (from + 4 - from) (drop from win)) j 0 ≡ get_or win (i * 12 + x + j) 0
four-at win from i x j e h = get_or-take (from + 4 - from) (drop from win) j 0 (omega arith) ∙ get_or-drop from win j 0 ∙ rw e

pub next-at : (win : List ℕ) (from i x j : ℕ) → from ≡ i * 12 + x → j < 4 → get_or (take (from + 8 - (from + 4)) (drop (from + 4) win)) j 0 ≡ get_or win (i * 12 + x + (4 + j)) 0
next-at win from i x j e h =
    let k : from + 4 + j ≡ i * 12 + x + (4 + j) = omega arith in
    get_or-take (from + 8 - (from + 4)) (drop (from + 4) win) j 0 (omega arith) ∙ get_or-drop (from + 4) win j 0 ∙ rw k

-- strips counted in rows
pub stripped : (x n i : ℕ) → i ≡ n → x * n + i ≡ (x + 1) * n
stripped x n i e = omega arith

pub stripped-all : (x n : ℕ) → x ≡ 5 → x * n ≡ 5 * n
stripped-all x n e = rw e

module _ (win : List ℕ) (w n : ℕ) where
  pub fill_none : (s : List ℕ) → ((k : ℕ) → get_or s k 0 ≡ 0) → Filled win w n 0 0 s
  fill_none s z = record { at = λ x i l hi hl h. absurd (omega arith); rest = λ k h. z k }

  -- the same count, written otherwise
  pub count : (s : List ℕ) (r j k : ℕ) → Filled win w n r j s → j ≡ k → Filled win w n r k s
  count s r j k f e = rw e at f

  -- one entry more, the j-th of row i of strip x
  pub fill_more : (s : List ℕ) (x i j v : ℕ) → Filled win w n (x * n + i) j s → i < n → j < w → (x * n + i) * w + j < length s → v ≡ get_or win (i * 12 + (x + j)) 0
      → Filled win w n (x * n + i) (j + 1) (set s ((x * n + i) * w + j) v)
  fill_more s x i j v f hi hj hs e = record { at = inside; rest = λ k h. get_or-set_other s ((x * n + i) * w + j) k v 0 (λ q. omega arith) ∙ f.rest k (omega arith) }
    where
      inside : (y k l : ℕ) → k < n → l < w → (y * n + k) * w + l < (x * n + i) * w + (j + 1) → get_or (set s ((x * n + i) * w + j) v) ((y * n + k) * w + l) 0 ≡ get_or win (k * 12 + (y + l)) 0
      inside y k l hk hl h = go (ℕ_discrete ((y * n + k) * w + l) ((x * n + i) * w + j))
        where
          go : Dec ((y * n + k) * w + l ≡ (x * n + i) * w + j) → get_or (set s ((x * n + i) * w + j) v) ((y * n + k) * w + l) 0 ≡ get_or win (k * 12 + (y + l)) 0
          go (yes q) =
              let c = entry-same n w y k l x i j hk hl hi hj q in
              rw q (get_or-set_same s ((x * n + i) * w + j) v 0 hs) ∙ e ∙ rw (c.0, c.1, c.2)
          go (no q) = get_or-set_other s ((x * n + i) * w + j) ((y * n + k) * w + l) v 0 q ∙ f.at y k l hk hl (omega arith)

  -- a row done, and all
  pub fill-row : (s : List ℕ) (r j : ℕ) → j ≡ w → Filled win w n r j s → Filled win w n (r + 1) 0 s
  fill-row s r j e f = record { at = λ x i l hi hl h. f.at x i l hi hl (omega arith); rest = λ k h. f.rest k (omega arith) }

  pub fill-same : (s : List ℕ) (r q : ℕ) → r ≡ q → Filled win w n r 0 s → Filled win w n q 0 s
  fill-same s r q e f = rw e at f

  pub fill-all : (s : List ℕ) (r : ℕ) → r ≡ 5 * n → length s ≡ 480 → Filled win w n r 0 s → Strips win w n s
  fill-all s r e l f =
      record {
        at = λ x i j hx hi hj. f.at x i j hi hj (rw e (inside x i j hx hi hj));
        rest = λ k h. f.rest k (rw e (omega arith));
        long = l;
      }
    where
      inside : (x i j : ℕ) → x < 5 → i < n → j < w → (x * n + i) * w + j < 5 * n * w + 0
      inside x i j hx hi hj =
          let a : x ≤ 4 = omega arith in
          let b : x * n + i + 1 ≤ 5 * n = omega (arith, mul-le-mul_right n a) in
          omega (arith, mul-le-mul_right w b)

-- the same width, written otherwise
pub width_is : (win : List ℕ) (w v n : ℕ) (s : List ℕ) → w ≡ v → Strips win w n s → Strips win v n s
width_is win w v n s e f = rw e at f
