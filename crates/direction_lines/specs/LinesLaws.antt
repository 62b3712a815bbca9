-- Each line sum of the code equals the standard's, for every direction.
use Rattle.std.specs.Prelude.{◌≡◌, refl, Bool, ◌&&◌, List, leb, eqb, get_or, ℤ, pos, ◌+ℤ◌}
use Rattle.std.proofs.Math.Path.{sym}
use Rattle.std.proofs.Common.{ap, ◌∙◌}
use Rattle.std.proofs.Math.Bool.{true, false, cond}
use Prim.Native.Nat.{ℕ, zero, suc, ◌+◌, ◌-◌, ◌*◌, ◌/◌, ◌%◌, ◌≤◌, ◌<◌}
use Rattle.std.proofs.Math.Decide.{dec_le, ℕ_discrete}
use native.Mathlib.Omega.{arith}
use borrow.Author.Tests.{lt-ltb, le-ltb, le-leb, lt-leb, eq-eqb, ne_eqb}
use Rattle.std.proofs.Math.Dec.{ltb}
use Rattle.std.proofs.Math.ListN.{get_or-eq_default}
use Rattle.std.proofs.Math.IntN.{nat_abs, +ℤ_assoc, +ℤ_comm, +ℤ_idl, +ℤ_idr}
use Rattle.cdef_spec.specs.SignedLaws.{size-add}
use Rattle.cdef_spec.specs.Words.{sum_ℤ}
use Rattle.cdef_spec.specs.Standard.{line_of, partial}
use Rattle.arith_sample.specs.Bounds.{Within}
use Rattle.arith_sample.specs.Upto.{upto, length-upto, get_or-upto, upto-ext, upto-all-of}
use Rattle.direction_lines.specs.Lines.{turned_of, pad_at, padded_of, pair_at, line_at, lines_of, partials_of}
use Rattle.direction_levels.specs.Levels.{block_of}

-- ---- forms and magnitudes

module _ (b : List ℤ) (i j : ℕ) where
  pub pad-left : j < 8 → pad_at b i j ≡ pos 0
  unfolding pad_at
  pad-left h = rw (lt-leb 8 j h)

  pub pad-right : 8 ≤ j → 16 ≤ j → pad_at b i j ≡ pos 0
  unfolding pad_at
  pad-right h g = rw (le-leb 8 j h, le-ltb j 16 g)

  pub pad-in : 8 ≤ j → j < 16 → pad_at b i j ≡ get_or b (i * 8 + (j - 8)) (pos 0)
  unfolding pad_at
  pad-in h g = rw (le-leb 8 j h, lt-ltb j 16 g)

  pub pad-size : Within b 128 → nat_abs (pad_at b i j) ≤ 128
  unfolding pad_at
  pad-size h = go (leb 8 j && ltb j 16)
    where
      go : (t : Bool) → nat_abs (cond t (get_or b (i * 8 + (j - 8)) (pos 0)) (pos 0)) ≤ 128
      go true = h.all (i * 8 + (j - 8))
      go false = omega arith

pub block_within : (x : ℕ → ℕ → ℤ) → ((i j : ℕ) → i < 8 → j < 8 → nat_abs (x i j) ≤ 128) → Within (block_of x) 128
unfolding block_of
block_within x h = record { all = λ k. go k (dec_le 64 k) }
  where
    go : (k : ℕ) → Dec (64 ≤ k) → nat_abs (get_or (upto (λ k. x (k / 8) (k % 8)) 64) k (pos 0)) ≤ 128
    go k (yes g) = rw (get_or-eq_default (upto (λ k. x (k / 8) (k % 8)) 64) (pos 0) {n = k} (omega (arith, length-upto (λ k. x (k / 8) (k % 8)) 64))) (omega arith)
    go k (no g) = rw (get_or-upto (λ k. x (k / 8) (k % 8)) 64 k (pos 0) (omega arith)) (h (k / 8) (k % 8) (omega arith) (omega arith))

pub turned-within : (b : List ℤ) → Within b 128 → Within (turned_of b) 128
unfolding turned_of
turned-within b h = record { all = upto-all-of (λ (z : ℤ). nat_abs z ≤ 128) _ 64 (pos 0) (λ k. h.all (k % 8 * 8 + k / 8)) (omega arith) }

pub padded-within : (b : List ℤ) → Within b 128 → Within (padded_of b) 128
unfolding padded_of
padded-within b h = record { all = upto-all-of (λ (z : ℤ). nat_abs z ≤ 128) _ 192 (pos 0) (λ k. pad-size b (k / 24) (k % 24) h) (omega arith) }

pub pair_size : (z : List ℤ) (k one : ℕ) → Within z 128 → nat_abs (pair_at z k one) ≤ 256
unfolding pair_at
pair_size z k one h = omega (arith, size-add (get_or z k (pos 0)) (get_or z (k + one) (pos 0)), h.all k, h.all (k + one))

pub line-size : (z : List ℤ) (k one two : ℕ) → Within z 128 → nat_abs (line_at z k one two) ≤ 1024
unfolding line_at
line-size z k one two h =
    omega (arith, size-add (pair_at z k one +ℤ pair_at z (k + two) one) (pair_at z (k + 2 * two) one +ℤ pair_at z (k + 3 * two) one), size-add (pair_at z k one) (pair_at z (k + two) one), size-add (pair_at z (k + 2 * two) one) (pair_at z (k + 3 * two) one), pair_size z k one h, pair_size z (k + two) one h, pair_size z (k + 2 * two) one h, pair_size z (k + 3 * two) one h)

-- ---- a block's entries

block_at : (x : ℕ → ℕ → ℤ) (i j : ℕ) → i < 8 → j < 8 → get_or (block_of x) (i * 8 + j) (pos 0) ≡ x i j
unfolding block_of
block_at x i j hi hj =
    let d : (i * 8 + j) / 8 ≡ i = omega arith in
    let m : (i * 8 + j) % 8 ≡ j = omega arith in
    get_or-upto (λ k. x (k / 8) (k % 8)) 64 (i * 8 + j) (pos 0) (omega arith) ∙ rw (d, m)

pub turned-block : (x : ℕ → ℕ → ℤ) → turned_of (block_of x) ≡ block_of (λ i j. x j i)
unfolding turned_of block_of
turned-block x = upto-ext _ _ 64 (λ k h. block_at x (k % 8) (k / 8) (omega arith) (omega arith))

padded-at : (b : List ℤ) (i c k : ℕ) → i < 8 → c < 24 → k ≡ i * 24 + c → get_or (padded_of b) k (pos 0) ≡ pad_at b i c
unfolding padded_of
padded-at b i c k hi hc e =
    let d : k / 24 ≡ i = omega arith in
    let m : k % 24 ≡ c = omega arith in
    get_or-upto (λ k. pad_at b (k / 24) (k % 24)) 192 k (pos 0) (omega arith) ∙ rw (d, m)

-- ---- one row: the sample on line n, if any, where the line of column j is j + 8 - o

module _ (f : ℕ → ℤ) (L : ℕ → ℕ) (n o : ℕ) where
  row-none : cond (leb 8 (n + o) && ltb (n + o) 8) (f (n + o - 8)) (pos 0) ≡ pos 0
  row-none = go (dec_le 8 (n + o))
    where
      go : Dec (8 ≤ n + o) → cond (leb 8 (n + o) && ltb (n + o) 8) (f (n + o - 8)) (pos 0) ≡ pos 0
      go (yes h) = rw (le-leb 8 (n + o) h, le-ltb (n + o) 8 h)
      go (no h) = let l : n + o < 8 = omega arith in rw (lt-leb 8 (n + o) l)

  row_on : (m : ℕ) → L m + o ≡ m + 8 → n + o ≡ 8 + m → cond (leb 8 (n + o) && ltb (n + o) (8 + m)) (f (n + o - 8)) (pos 0) +ℤ cond (eqb (L m) n) (f m) (pos 0) ≡ cond (leb 8 (n + o) && ltb (n + o) (8 + suc m)) (f (n + o - 8)) (pos 0)
  row_on m e g =
      let l : L m ≡ n = omega arith in
      let h : 8 ≤ n + o = omega arith in
      let u : 8 + m ≤ n + o = omega arith in
      let v : n + o < 8 + suc m = omega arith in
      let a : n + o - 8 ≡ m = omega arith in
      rw (le-leb 8 (n + o) h, le-ltb (n + o) (8 + m) u, lt-ltb (n + o) (8 + suc m) v, eq-eqb (L m) n l, a) (+ℤ_idl (f m))

  row-off : (m : ℕ) → L m + o ≡ m + 8 → (n + o ≡ 8 + m → ⊥) → cond (leb 8 (n + o) && ltb (n + o) (8 + m)) (f (n + o - 8)) (pos 0) +ℤ cond (eqb (L m) n) (f m) (pos 0) ≡ cond (leb 8 (n + o) && ltb (n + o) (8 + suc m)) (f (n + o - 8)) (pos 0)
  row-off m e g =
      let l : L m ≡ n → ⊥ = λ l. g (omega arith) in
      rw (ne_eqb (L m) n l, same (dec_le (8 + m) (n + o))) (+ℤ_idr _)
    where
      same : Dec (8 + m ≤ n + o) → ltb (n + o) (8 + m) ≡ ltb (n + o) (8 + suc m)
      same (yes h) = let k : 8 + suc m ≤ n + o = omega arith in le-ltb (n + o) (8 + m) h ∙ sym (le-ltb (n + o) (8 + suc m) k)
      same (no h) = let k : n + o < 8 + m = omega arith in let k2 : n + o < 8 + suc m = omega arith in lt-ltb (n + o) (8 + m) k ∙ sym (lt-ltb (n + o) (8 + suc m) k2)

  pub row_is : (m : ℕ) → ((j : ℕ) → j < m → L j + o ≡ j + 8) → sum_ℤ m (λ j. cond (eqb (L j) n) (f j) (pos 0)) ≡ cond (leb 8 (n + o) && ltb (n + o) (8 + m)) (f (n + o - 8)) (pos 0)
  unfolding sum_ℤ
  row_is zero h = sym row-none
  row_is (suc m) h = rw (row_is m (λ j l. h j (omega arith))) (go (ℕ_discrete (n + o) (8 + m)))
    where
      go : Dec (n + o ≡ 8 + m) → cond (leb 8 (n + o) && ltb (n + o) (8 + m)) (f (n + o - 8)) (pos 0) +ℤ cond (eqb (L m) n) (f m) (pos 0) ≡ cond (leb 8 (n + o) && ltb (n + o) (8 + suc m)) (f (n + o - 8)) (pos 0)
      go (yes g) = row_on m (h m (omega arith)) g
      go (no g) = row-off m (h m (omega arith)) g

-- ---- eight rows

eight : (a b c d e f g h : ℤ) → ((a +ℤ b) +ℤ (c +ℤ d)) +ℤ ((e +ℤ f) +ℤ (g +ℤ h)) ≡ (((((((pos 0 +ℤ a) +ℤ b) +ℤ c) +ℤ d) +ℤ e) +ℤ f) +ℤ g) +ℤ h
eight a b c d e f g h = simp (+ℤ_assoc, +ℤ_idl)

sum-eight : (f : ℕ → ℤ) → ((f 0 +ℤ f 1) +ℤ (f 2 +ℤ f 3)) +ℤ ((f 4 +ℤ f 5) +ℤ (f 6 +ℤ f 7)) ≡ sum_ℤ 8 f
unfolding sum_ℤ
sum-eight f = eight (f 0) (f 1) (f 2) (f 3) (f 4) (f 5) (f 6) (f 7)

-- rows x whose lines are L: the row i starts at first + i / 2 * two + i % 2 * one, which is 8 - o i entries before the sample that lies on line 0
module _ (x : ℕ → ℕ → ℤ) (L : ℕ → ℕ → ℕ) (o : ℕ → ℕ) (first one two : ℕ)
    (line : (i j : ℕ) → i < 8 → j < 8 → L i j + o i ≡ j + 8)
    (low : (i : ℕ) → i < 8 → o i ≤ 8)
    (starts : (i : ℕ) → i < 8 → first + i / 2 * two + i % 2 * one ≡ i * 24 + o i) where
  pad-row : (i n : ℕ) → i < 8 → pad_at (block_of x) i (n + o i) ≡ sum_ℤ 8 (λ j. cond (eqb (L i j) n) (x i j) (pos 0))
  unfolding pad_at
  pad-row i n hi = go (dec_le 8 (n + o i)) (dec_le 16 (n + o i)) ∙ sym (row_is (x i) (L i) n (o i) 8 (λ j hj. line i j hi hj))
    where
      go : Dec (8 ≤ n + o i) → Dec (16 ≤ n + o i) → cond (leb 8 (n + o i) && ltb (n + o i) 16) (get_or (block_of x) (i * 8 + (n + o i - 8)) (pos 0)) (pos 0) ≡ cond (leb 8 (n + o i) && ltb (n + o i) 16) (x i (n + o i - 8)) (pos 0)
      go (yes a) (yes b) = rw (le-ltb (n + o i) 16 b, le-leb 8 (n + o i) a)
      go (yes a) (no b) = rw (block_at x i (n + o i - 8) hi (omega arith))
      go (no a) b = let l : n + o i < 8 = omega arith in rw (lt-leb 8 (n + o i) l)

  row_at : (i n k : ℕ) → i < 8 → n < 16 → k ≡ first + n + i / 2 * two + i % 2 * one → get_or (padded_of (block_of x)) k (pos 0) ≡ sum_ℤ 8 (λ j. cond (eqb (L i j) n) (x i j) (pos 0))
  row_at i n k hi hn e =
      let l : o i ≤ 8 = low i hi in
      let s : first + i / 2 * two + i % 2 * one ≡ i * 24 + o i = starts i hi in
      padded-at (block_of x) i (n + o i) k hi (omega arith) (omega arith) ∙ pad-row i n hi

  line-is : (n : ℕ) → n < 16 → line_at (padded_of (block_of x)) (first + n) one two ≡ sum_ℤ 8 (λ i. sum_ℤ 8 (λ j. cond (eqb (L i j) n) (x i j) (pos 0)))
  unfolding line_at pair_at
  line-is n hn = rw (
    row_at 0 n (first + n) (omega arith) hn (omega arith),
    row_at 1 n (first + n + one) (omega arith) hn (omega arith),
    row_at 2 n (first + n + two) (omega arith) hn (omega arith),
    row_at 3 n (first + n + two + one) (omega arith) hn (omega arith),
    row_at 4 n (first + n + 2 * two) (omega arith) hn (omega arith),
    row_at 5 n (first + n + 2 * two + one) (omega arith) hn (omega arith),
    row_at 6 n (first + n + 3 * two) (omega arith) hn (omega arith),
    row_at 7 n (first + n + 3 * two + one) (omega arith) hn (omega arith),
  ) (sum-eight (λ i. sum_ℤ 8 (λ j. cond (eqb (L i j) n) (x i j) (pos 0))))

-- ---- rows and columns exchanged

sum-add : (n : ℕ) (f g : ℕ → ℤ) → sum_ℤ n (λ i. f i +ℤ g i) ≡ sum_ℤ n f +ℤ sum_ℤ n g
unfolding sum_ℤ
sum-add zero f g = refl
sum-add (suc n) f g = rw (sum-add n f g) (swap (sum_ℤ n f) (sum_ℤ n g) (f n) (g n))
  where
    swap : (a b c d : ℤ) → (a +ℤ b) +ℤ (c +ℤ d) ≡ (a +ℤ c) +ℤ (b +ℤ d)
    swap a b c d = +ℤ_assoc a b (c +ℤ d) ∙ ap (λ (z : ℤ). a +ℤ z) (sym (+ℤ_assoc b c d) ∙ ap (λ (z : ℤ). z +ℤ d) (+ℤ_comm b c) ∙ +ℤ_assoc c b d) ∙ sym (+ℤ_assoc a c (b +ℤ d))

sum-zero : (n : ℕ) → sum_ℤ n (λ i. pos 0) ≡ pos 0
unfolding sum_ℤ
sum-zero zero = refl
sum-zero (suc n) = rw (sum-zero n)

sum-swap : (m n : ℕ) (f : ℕ → ℕ → ℤ) → sum_ℤ m (λ i. sum_ℤ n (λ j. f i j)) ≡ sum_ℤ n (λ j. sum_ℤ m (λ i. f i j))
unfolding sum_ℤ
sum-swap zero n f = sym (sum-zero n)
sum-swap (suc m) n f = rw (sum-swap m n f) (sym (sum-add n (λ j. sum_ℤ m (λ i. f i j)) (f m)))

-- ---- the eight directions

module _ (x : ℕ → ℕ → ℤ) where
  -- the block as it is
  pub lines-0 : lines_of (padded_of (block_of x)) 8 23 46 ≡ upto (partial x 0) 16
  unfolding lines_of partial line_of
  lines-0 = upto-ext _ _ 16 (line-is x (λ i j. i + j) (λ i. 8 - i) 8 23 46 (λ i j hi hj. omega arith) (λ i hi. omega arith) (λ i hi. omega arith))

  pub lines-5 : lines_of (padded_of (block_of x)) 5 24 49 ≡ upto (partial x 5) 16
  unfolding lines_of partial line_of
  lines-5 = upto-ext _ _ 16 (line-is x (λ i j. 3 - i / 2 + j) (λ i. 5 + i / 2) 5 24 49 (λ i j hi hj. omega arith) (λ i hi. omega arith) (λ i hi. omega arith))

  pub lines-6 : lines_of (padded_of (block_of x)) 8 24 48 ≡ upto (partial x 6) 16
  unfolding lines_of partial line_of
  lines-6 = upto-ext _ _ 16 (line-is x (λ i j. j) (λ i. 8) 8 24 48 (λ i j hi hj. omega arith) (λ i hi. omega arith) (λ i hi. omega arith))

  pub lines-7 : lines_of (padded_of (block_of x)) 8 24 47 ≡ upto (partial x 7) 16
  unfolding lines_of partial line_of
  lines-7 = upto-ext _ _ 16 (line-is x (λ i j. i / 2 + j) (λ i. 8 - i / 2) 8 24 47 (λ i j hi hj. omega arith) (λ i hi. omega arith) (λ i hi. omega arith))

  -- the block transposed: its row i is column i
  pub turned-is : (d n : ℕ) → sum_ℤ 8 (λ i. sum_ℤ 8 (λ j. cond (eqb (line_of d j i) n) (x j i) (pos 0))) ≡ partial x d n
  unfolding partial
  turned-is d n = sum-swap 8 8 (λ i j. cond (eqb (line_of d j i) n) (x j i) (pos 0))

  pub lines-1 : lines_of (padded_of (block_of (λ i j. x j i))) 8 24 47 ≡ upto (partial x 1) 16
  unfolding lines_of line_of
  lines-1 = upto-ext _ _ 16 (λ n hn. line-is (λ i j. x j i) (λ i j. j + i / 2) (λ i. 8 - i / 2) 8 24 47 (λ i j hi hj. omega arith) (λ i hi. omega arith) (λ i hi. omega arith) n hn ∙ turned-is 1 n)

  pub lines-2 : lines_of (padded_of (block_of (λ i j. x j i))) 8 24 48 ≡ upto (partial x 2) 16
  unfolding lines_of line_of
  lines-2 = upto-ext _ _ 16 (λ n hn. line-is (λ i j. x j i) (λ i j. j) (λ i. 8) 8 24 48 (λ i j hi hj. omega arith) (λ i hi. omega arith) (λ i hi. omega arith) n hn ∙ turned-is 2 n)

  pub lines-3 : lines_of (padded_of (block_of (λ i j. x j i))) 5 24 49 ≡ upto (partial x 3) 16
  unfolding lines_of line_of
  lines-3 = upto-ext _ _ 16 (λ n hn. line-is (λ i j. x j i) (λ i j. 3 + j - i / 2) (λ i. 5 + i / 2) 5 24 49 (λ i j hi hj. omega arith) (λ i hi. omega arith) (λ i hi. omega arith) n hn ∙ turned-is 3 n)

  pub lines-4 : lines_of (padded_of (block_of (λ i j. x j i))) 1 25 50 ≡ upto (partial x 4) 16
  unfolding lines_of line_of
  lines-4 = upto-ext _ _ 16 (λ n hn. line-is (λ i j. x j i) (λ i j. 7 + j - i) (λ i. 1 + i) 1 25 50 (λ i j hi hj. omega arith) (λ i hi. omega arith) (λ i hi. omega arith) n hn ∙ turned-is 4 n)

  -- THE LINE SUMS that the code adds up from a block and its transpose are the standard's
  pub partials-are : record {
    d0 = lines_of (padded_of (block_of x)) 8 23 46;
    d1 = lines_of (padded_of (turned_of (block_of x))) 8 24 47;
    d2 = lines_of (padded_of (turned_of (block_of x))) 8 24 48;
    d3 = lines_of (padded_of (turned_of (block_of x))) 5 24 49;
    d4 = lines_of (padded_of (turned_of (block_of x))) 1 25 50;
    d5 = lines_of (padded_of (block_of x)) 5 24 49;
    d6 = lines_of (padded_of (block_of x)) 8 24 48;
    d7 = lines_of (padded_of (block_of x)) 8 24 47;
  } ≡ partials_of x
  unfolding partials_of
  partials-are = rw (turned-block x, lines-0, lines-1, lines-2, lines-3, lines-4, lines-5, lines-6, lines-7)

  -- the same, from the code's calls
  pub partials-from : (b t zb zt l0 l1 l2 l3 l4 l5 l6 l7 : List ℤ)
      → b ≡ block_of x
      → t ≡ turned_of b
      → zb ≡ padded_of b
      → zt ≡ padded_of t
      → l0 ≡ lines_of zb 8 23 46
      → l1 ≡ lines_of zt 8 24 47
      → l2 ≡ lines_of zt 8 24 48
      → l3 ≡ lines_of zt 5 24 49
      → l4 ≡ lines_of zt 1 25 50
      → l5 ≡ lines_of zb 5 24 49
      → l6 ≡ lines_of zb 8 24 48
      → l7 ≡ lines_of zb 8 24 47
      → record { d0 = l0; d1 = l1; d2 = l2; d3 = l3; d4 = l4; d5 = l5; d6 = l6; d7 = l7 } ≡ partials_of x
  partials-from b t zb zt l0 l1 l2 l3 l4 l5 l6 l7 eb et ezb ezt e0 e1 e2 e3 e4 e5 e6 e7 =
      rw (e0, e1, e2, e3, e4, e5, e6, e7, ezt, ezb, et, eb) partials-are
