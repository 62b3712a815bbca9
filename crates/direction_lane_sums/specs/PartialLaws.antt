-- Each line sum of a lane equals the standard's, for every direction.
use Rattle.std.specs.Prelude.{◌≡◌, refl, Bool, true, false, ◌&&◌, List, ℕ, ◌+◌, ◌-◌, ◌*◌, ◌/◌, ◌%◌, ◌≤◌, ◌<◌, leb, eqb, get_or, ℤ, pos, ◌+ℤ◌}
use Rattle.std.proofs.Math.Path.{sym}
use Rattle.std.proofs.Common.{ap, ◌∙◌, lt-ltb, le-ltb, le-leb, eq-eqb, ne_eqb}
use Rattle.std.proofs.Math.Bool.{cond}
use Rattle.std.proofs.Math.Decide.{dec_le, dec_lt, ℕ_discrete}
use native.Mathlib.Omega.{arith}
use Rattle.std.proofs.lemmas.Bool.{lt-leb}
use Rattle.std.proofs.Math.Dec.{ltb}
use Rattle.std.proofs.Math.IntN.{+ℤ_assoc, +ℤ_idl}
use Rattle.cdef_spec.specs.Words.{sum_ℤ}
use Rattle.cdef_spec.specs.DirectionLocal.{sum_ℤ-same}
use Rattle.cdef_spec.specs.Standard.{line_of, partial}
use Rattle.arith_sample.specs.Upto.{get_or-upto}
use Rattle.direction_lines.specs.LinesLaws.{row_is, turned-is}
use Rattle.direction_lane_sums.specs.declared.Step.{Step}
use Rattle.direction_lane_sums.specs.declared.Step.TheVariants.{Same, Next, Back}
use Rattle.direction_lane_sums.specs.Lines.{lane_of, neighbour_sum, neighbour_sums, added_at, place_of, lane_lines, lane_line}
use Rattle.direction_lane_sums.specs.LinesLaws.{place-high}

-- the entry of a row on line n, where the row starts at line s
unfoldable on_line : (ℕ → ℤ) → ℕ → ℕ → ℤ
on_line f s n = cond (leb s n && ltb n (s + 8)) (f (n - s)) (pos 0)

-- ---- a row of lanes

module _ (s n l : ℕ) (hl : l < 8) where
  low_same : leb (s * 8) (n * 8 + l) ≡ leb s n
  low_same = go (dec_le s n)
    where
      go : Dec (s ≤ n) → leb (s * 8) (n * 8 + l) ≡ leb s n
      go (yes h) = let k : s * 8 ≤ n * 8 + l = omega arith in le-leb (s * 8) (n * 8 + l) k ∙ sym (le-leb s n h)
      go (no h) =
          let a : n < s = omega arith in
          let k : n * 8 + l < s * 8 = omega arith in
          lt-leb (s * 8) (n * 8 + l) k ∙ sym (lt-leb s n a)

  high_same : ltb (n * 8 + l) (s * 8 + 64) ≡ ltb n (s + 8)
  high_same = go (dec_lt n (s + 8))
    where
      go : Dec (n < s + 8) → ltb (n * 8 + l) (s * 8 + 64) ≡ ltb n (s + 8)
      go (yes h) = let k : n * 8 + l < s * 8 + 64 = omega arith in lt-ltb (n * 8 + l) (s * 8 + 64) k ∙ sym (lt-ltb n (s + 8) h)
      go (no h) =
          let a : s + 8 ≤ n = omega arith in
          let k : s * 8 + 64 ≤ n * 8 + l = omega arith in
          le-ltb (n * 8 + l) (s * 8 + 64) k ∙ sym (le-ltb n (s + 8) a)

  row-lane : (z : List ℤ) (i : ℕ) → added_at z (s * 8) (i * 64) 64 (n * 8 + l) ≡ on_line (lane_of z l i) s n
  unfolding added_at on_line lane_of
  row-lane z i = rw (low_same, high_same) (go (dec_le s n))
    where
      go : Dec (s ≤ n)
          → cond (leb s n && ltb n (s + 8)) (get_or z (i * 64 + (n * 8 + l - s * 8)) (pos 0)) (pos 0) ≡ cond (leb s n && ltb n (s + 8)) (get_or z (i * 64 + (n - s) * 8 + l) (pos 0)) (pos 0)
      go (yes h) = let e : i * 64 + (n * 8 + l - s * 8) ≡ i * 64 + (n - s) * 8 + l = omega arith in rw e
      go (no h) = let a : n < s = omega arith in rw (lt-leb s n a)

-- the lines of a lane
line-sum : (z : List ℤ) (rows first : ℕ) (step : Step) (l n : ℕ) → l < 8 → n < 16 → lane_line (lane_lines z rows first step) l n ≡ sum_ℤ rows (λ i. on_line (lane_of z l i) (place_of i rows first step) n)
unfolding lane_line lane_lines
line-sum z rows first step l n hl hn = get_or-upto _ 128 (n * 8 + l) (pos 0) (omega arith) ∙ sum_ℤ-same rows _ _ (λ i hi. row-lane (place_of i rows first step) n l hl z i)

-- ---- a row of the standard

line-from : (f : ℕ → ℤ) (s n : ℕ) → s ≤ 8 → sum_ℤ 8 (λ j. cond (eqb (j + s) n) (f j) (pos 0)) ≡ on_line f s n
unfolding on_line
line-from f s n hs = row_is f (λ j. j + s) n (8 - s) 8 (λ j h. omega arith) ∙ go (dec_le s n) (dec_lt n (s + 8))
  where
    go : Dec (s ≤ n) → Dec (n < s + 8)
        → cond (leb 8 (n + (8 - s)) && ltb (n + (8 - s)) (8 + 8)) (f (n + (8 - s) - 8)) (pos 0) ≡ cond (leb s n && ltb n (s + 8)) (f (n - s)) (pos 0)
    go (yes a) (yes b) =
        let c : 8 ≤ n + (8 - s) = omega arith in
        let d : n + (8 - s) < 8 + 8 = omega arith in
        let e : n + (8 - s) - 8 ≡ n - s = omega arith in
        rw (le-leb 8 (n + (8 - s)) c, lt-ltb (n + (8 - s)) (8 + 8) d, le-leb s n a, lt-ltb n (s + 8) b, e)
    go (yes a) (no b) =
        let c : 8 ≤ n + (8 - s) = omega arith in
        let g : s + 8 ≤ n = omega arith in
        let d : 8 + 8 ≤ n + (8 - s) = omega arith in
        rw (le-leb 8 (n + (8 - s)) c, le-ltb (n + (8 - s)) (8 + 8) d, le-leb s n a, le-ltb n (s + 8) g)
    go (no a) b =
        let g : n < s = omega arith in
        let c : n + (8 - s) < 8 = omega arith in
        rw (lt-leb 8 (n + (8 - s)) c, lt-leb s n g)

eqb_same : (a b c d : ℕ) → (a ≡ b → c ≡ d) → (c ≡ d → a ≡ b) → eqb a b ≡ eqb c d
eqb_same a b c d f g = go (ℕ_discrete a b)
  where
    go : Dec (a ≡ b) → eqb a b ≡ eqb c d
    go (yes h) = eq-eqb a b h ∙ sym (eq-eqb c d (f h))
    go (no h) = ne_eqb a b h ∙ sym (ne_eqb c d (λ k. h (g k)))

-- rows x whose lines are L: line n is at N, where row i starts at S i
module _ (x : ℕ → ℕ → ℤ) (L : ℕ → ℕ → ℕ) (S : ℕ → ℕ) (n N : ℕ)
    (low : (i : ℕ) → i < 8 → S i ≤ 8)
    (line : (i j : ℕ) → i < 8 → j < 8 → (L i j ≡ n → j + S i ≡ N) × (j + S i ≡ N → L i j ≡ n)) where
  rows_are : sum_ℤ 8 (λ i. sum_ℤ 8 (λ j. cond (eqb (L i j) n) (x i j) (pos 0))) ≡ sum_ℤ 8 (λ i. on_line (x i) (S i) N)
  rows_are = sum_ℤ-same 8 _ _ (λ i hi. sum_ℤ-same 8 _ _ (λ j hj. ap (λ (t : Bool). cond t (x i j) (pos 0)) (same i j hi hj)) ∙ line-from (x i) (S i) N (low i hi))
    where
      same : (i j : ℕ) → i < 8 → j < 8 → eqb (L i j) n ≡ eqb (j + S i) N
      same i j hi hj = eqb_same (L i j) n (j + S i) N (line i j hi hj).0 (line i j hi hj).1

-- ---- pairs of rows

on_same : (f g : ℕ → ℤ) (s n : ℕ) → ((j : ℕ) → j < 8 → f j ≡ g j) → on_line f s n ≡ on_line g s n
unfolding on_line
on_same f g s n h = go (dec_le s n) (dec_lt n (s + 8))
  where
    go : Dec (s ≤ n) → Dec (n < s + 8) → cond (leb s n && ltb n (s + 8)) (f (n - s)) (pos 0) ≡ cond (leb s n && ltb n (s + 8)) (g (n - s)) (pos 0)
    go (yes a) (yes b) = rw (h (n - s) (omega arith))
    go (yes a) (no b) = let c : s + 8 ≤ n = omega arith in rw (le-leb s n a, le-ltb n (s + 8) c)
    go (no a) b = let c : n < s = omega arith in rw (lt-leb s n c)

on-add : (f g : ℕ → ℤ) (s n : ℕ) → on_line f s n +ℤ on_line g s n ≡ on_line (λ j. f j +ℤ g j) s n
unfolding on_line
on-add f g s n = go (leb s n && ltb n (s + 8))
  where
    go : (t : Bool) → cond t (f (n - s)) (pos 0) +ℤ cond t (g (n - s)) (pos 0) ≡ cond t (f (n - s) +ℤ g (n - s)) (pos 0)
    go true = refl
    go false = refl

by-pairs : (f : ℕ → ℤ) → sum_ℤ 8 f ≡ sum_ℤ 4 (λ m. f (2 * m) +ℤ f (2 * m + 1))
unfolding sum_ℤ
by-pairs f = simp (+ℤ_assoc, +ℤ_idl)

module _ (z : List ℤ) (x : ℕ → ℕ → ℤ) (first : ℕ) (step : Step) (l : ℕ) (hl : l < 8) (hf : first ≤ 2)
    (pairs : (m j : ℕ) → m < 4 → j < 8 → lane_of z l m j ≡ x (2 * m) j +ℤ x (2 * m + 1) j) where
  pair-lines : (n : ℕ) → n < 16 → lane_line (lane_lines z 4 first step) l n ≡ sum_ℤ 8 (λ i. on_line (x i) (place_of (i / 2) 4 first step) n)
  pair-lines n hn = line-sum z 4 first step l n hl hn ∙ sum_ℤ-same 4 _ _ (λ m hm. one m hm) ∙ sym (by-pairs (λ i. on_line (x i) (place_of (i / 2) 4 first step) n))
    where
      one : (m : ℕ) → m < 4
          → on_line (lane_of z l m) (place_of m 4 first step) n ≡ on_line (x (2 * m)) (place_of (2 * m / 2) 4 first step) n +ℤ on_line (x (2 * m + 1)) (place_of ((2 * m + 1) / 2) 4 first step) n
      one m hm =
          let a : 2 * m / 2 ≡ m = omega arith in
          let b : (2 * m + 1) / 2 ≡ m = omega arith in
          rw (a, b, on-add (x (2 * m)) (x (2 * m + 1)) (place_of m 4 first step) n) (on_same _ _ (place_of m 4 first step) n (λ j hj. pairs m j hm hj))

-- the sums of neighbours in a column, and in a row
pair-at : (s : List ℤ) (down on next m j l : ℕ) → m < 4 → j < 8 → l < 8 → lane_of (neighbour_sums s down on next) l m j ≡ neighbour_sum s (m * down + j * on) next l
unfolding lane_of neighbour_sums
pair-at s down on next m j l hm hj hl =
    let a : (m * 64 + j * 8 + l) / 64 ≡ m = omega arith in
    let b : (m * 64 + j * 8 + l) / 8 % 8 ≡ j = omega arith in
    let c : (m * 64 + j * 8 + l) % 8 ≡ l = omega arith in
    get_or-upto _ 256 (m * 64 + j * 8 + l) (pos 0) (omega arith) ∙ rw (a, b, c)

half-low : (i first : ℕ) (step : Step) → i < 8 → first ≤ 2 → place_of (i / 2) 4 first step ≤ 8
half-low i first step hi hf = omega (arith, place-high (i / 2) 4 first step (omega arith))

module _ (s : List ℤ) (l : ℕ) (hl : l < 8) where
  column-pairs : (m j : ℕ) → m < 4 → j < 8 → lane_of (neighbour_sums s 128 8 64) l m j ≡ lane_of s l (2 * m) j +ℤ lane_of s l (2 * m + 1) j
  unfolding neighbour_sum lane_of
  column-pairs m j hm hj =
      let a : 2 * m * 64 + j * 8 + l ≡ m * 128 + j * 8 + l = omega arith in
      let b : (2 * m + 1) * 64 + j * 8 + l ≡ m * 128 + j * 8 + 64 + l = omega arith in
      pair-at s 128 8 64 m j l hm hj hl ∙ rw (a, b)

  row-pairs : (m j : ℕ) → m < 4 → j < 8 → lane_of (neighbour_sums s 16 64 8) l m j ≡ lane_of s l j (2 * m) +ℤ lane_of s l j (2 * m + 1)
  unfolding neighbour_sum lane_of
  row-pairs m j hm hj =
      let a : j * 64 + 2 * m * 8 + l ≡ m * 16 + j * 64 + l = omega arith in
      let b : j * 64 + (2 * m + 1) * 8 + l ≡ m * 16 + j * 64 + 8 + l = omega arith in
      pair-at s 16 64 8 m j l hm hj hl ∙ rw (a, b)

  -- ---- THE EIGHT DIRECTIONS: line n of the standard, at its index

  row_line : (d : ℕ) (step : Step) (n m : ℕ) → m < 16
      → ((i j : ℕ) → i < 8 → j < 8 → (line_of d i j ≡ n → j + place_of i 8 0 step ≡ m) × (j + place_of i 8 0 step ≡ m → line_of d i j ≡ n))
      → lane_line (lane_lines s 8 0 step) l m ≡ partial (lane_of s l) d n
  unfolding partial
  row_line d step n m hm line = line-sum s 8 0 step l m hl hm ∙ sym (rows_are (lane_of s l) (line_of d) (λ i. place_of i 8 0 step) n m (λ i hi. omega (arith, place-high i 8 0 step hi)) line)

  column-pair-line : (d : ℕ) (step : Step) (first n m : ℕ) → first ≤ 2 → m < 16
      → ((i j : ℕ) → i < 8 → j < 8 → (line_of d i j ≡ n → j + place_of (i / 2) 4 first step ≡ m) × (j + place_of (i / 2) 4 first step ≡ m → line_of d i j ≡ n))
      → lane_line (lane_lines (neighbour_sums s 128 8 64) 4 first step) l m ≡ partial (lane_of s l) d n
  unfolding partial
  column-pair-line d step first n m hf hm line =
      pair-lines _ (lane_of s l) first step l hl hf column-pairs m hm
      ∙ sym (rows_are (lane_of s l) (line_of d) (λ i. place_of (i / 2) 4 first step) n m (λ i hi. half-low i first step hi hf) line)

  row-pair-line : (d : ℕ) (step : Step) (first n m : ℕ) → first ≤ 2 → m < 16
      → ((i j : ℕ) → i < 8 → j < 8 → (line_of d j i ≡ n → j + place_of (i / 2) 4 first step ≡ m) × (j + place_of (i / 2) 4 first step ≡ m → line_of d j i ≡ n))
      → lane_line (lane_lines (neighbour_sums s 16 64 8) 4 first step) l m ≡ partial (lane_of s l) d n
  row-pair-line d step first n m hf hm line =
      pair-lines _ (λ i j. lane_of s l j i) first step l hl hf row-pairs m hm
      ∙ sym (rows_are (λ i j. lane_of s l j i) (λ i j. line_of d j i) (λ i. place_of (i / 2) 4 first step) n m (λ i hi. half-low i first step hi hf) line) ∙ turned-is (lane_of s l) d n

  pub lines-0 : (n : ℕ) → n < 16 → lane_line (lane_lines s 8 0 Next) l n ≡ partial (lane_of s l) 0 n
  unfolding line_of place_of
  lines-0 n h = row_line 0 Next n n h (λ i j hi hj. (λ e. omega arith, λ e. omega arith))

  pub lines-1 : (n : ℕ) → n < 14 → lane_line (lane_lines (neighbour_sums s 16 64 8) 4 2 Next) l (n + 2) ≡ partial (lane_of s l) 1 n
  unfolding line_of place_of
  lines-1 n h = row-pair-line 1 Next 2 n (n + 2) (omega arith) (omega arith) (λ i j hi hj. (λ e. omega arith, λ e. omega arith))

  pub lines-2 : (n : ℕ) → n < 16 → lane_line (lane_lines (neighbour_sums s 16 64 8) 4 0 Same) l n ≡ partial (lane_of s l) 2 n
  unfolding line_of place_of
  lines-2 n h = row-pair-line 2 Same 0 n n (omega arith) h (λ i j hi hj. (λ e. omega arith, λ e. omega arith))

  pub lines-3 : (n : ℕ) → n < 14 → lane_line (lane_lines (neighbour_sums s 16 64 8) 4 2 Back) l (n + 2) ≡ partial (lane_of s l) 3 n
  unfolding line_of place_of
  lines-3 n h = row-pair-line 3 Back 2 n (n + 2) (omega arith) (omega arith) (λ i j hi hj. (λ e. omega arith, λ e. omega arith))

  pub lines-4 : (n : ℕ) → n < 15 → lane_line (lane_lines s 8 0 Back) l n ≡ partial (lane_of s l) 4 (14 - n)
  unfolding line_of place_of
  lines-4 n h = row_line 4 Back (14 - n) n (omega arith) (λ i j hi hj. (λ e. omega arith, λ e. omega arith))

  pub lines-5 : (n : ℕ) → n < 14 → lane_line (lane_lines (neighbour_sums s 128 8 64) 4 2 Back) l (n + 2) ≡ partial (lane_of s l) 5 n
  unfolding line_of place_of
  lines-5 n h = column-pair-line 5 Back 2 n (n + 2) (omega arith) (omega arith) (λ i j hi hj. (λ e. omega arith, λ e. omega arith))

  pub lines-6 : (n : ℕ) → n < 16 → lane_line (lane_lines (neighbour_sums s 128 8 64) 4 0 Same) l n ≡ partial (lane_of s l) 6 n
  unfolding line_of place_of
  lines-6 n h = column-pair-line 6 Same 0 n n (omega arith) h (λ i j hi hj. (λ e. omega arith, λ e. omega arith))

  pub lines-7 : (n : ℕ) → n < 14 → lane_line (lane_lines (neighbour_sums s 128 8 64) 4 2 Next) l (n + 2) ≡ partial (lane_of s l) 7 n
  unfolding line_of place_of
  lines-7 n h = column-pair-line 7 Next 2 n (n + 2) (omega arith) (omega arith) (λ i j hi hj. (λ e. omega arith, λ e. omega arith))

-- past the eighth, straight lines have no samples
pub straight_none : (z : List ℤ) (l n : ℕ) → l < 8 → 8 ≤ n → n < 16 → lane_line (lane_lines z 4 0 Same) l n ≡ pos 0
unfolding sum_ℤ on_line place_of
straight_none z l n hl hn hm = line-sum z 4 0 Same l n hl hm ∙ rw (le-leb 0 n (omega arith), le-ltb n 8 hn)
