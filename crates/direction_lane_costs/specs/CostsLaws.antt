-- Laws of the costs of eight blocks in lanes: they equal the standard's, and fit.
use Rattle.std.specs.Prelude.{◌≡◌, List, get_or, set, take, length, ℤ, pos}
use Rattle.std.proofs.Math.Path.{refl}
use Rattle.std.proofs.Common.{ap, ◌∙◌}
use Prim.Native.Nat.{ℕ, zero, suc, ◌+◌, ◌-◌, ◌*◌, ◌/◌, ◌%◌, ◌≤◌, ◌<◌}
use Rattle.std.proofs.Math.Numerals.{add-one}
use native.Mathlib.Omega.{arith}
use Rattle.std.proofs.Math.ListN.{length-set}
use Rattle.cdef_spec.specs.Standard.{partial, square, div_table, cost_straight, cost_diagonal, cost_between, cost}
use Rattle.arith_sample.specs.Bounds.{Within}
use Rattle.arith_sample.specs.Upto.{upto, get_or-upto, upto-more, upto-at}
use Rattle.direction_costs.specs.CostsLaws.{straight-is, diagonal-is, between_is}
use Rattle.direction_block.specs.FoundLaws.{costs-are, costs-fit}
use Rattle.direction_lane_costs.specs.declared.Lines.{Lines}
use Rattle.direction_lane_costs.specs.declared.Lines.TheVariants.{Straight, Between, Diagonal}
use Rattle.direction_lane_sums.specs.declared.Step.{Step}
use Rattle.direction_lane_sums.specs.declared.Step.TheVariants.{Same, Next, Back}
use Rattle.direction_lane_sums.specs.Lines.{lane_of, neighbour_sums, lane_lines, lane_line}
use Rattle.direction_lane_sums.specs.LinesLaws.{lines-within}
use Rattle.direction_lane_sums.specs.PartialLaws.{lines-0, lines-1, lines-2, lines-3, lines-4, lines-5, lines-6, lines-7, straight_none}
use Rattle.direction_lane_costs.specs.Costs.{end_at, ends_of, end_squares, squares_of, weigh, weighed_of, cost_of, LaneCostsFit, written, cost_at, CostsTo}

-- ---- lines n and 14 - n side by side

module _ (p : List ℤ) (n l k : ℕ) (hn : n < 8) (hl : l < 8) where
  pub end-even : k ≡ n * 16 + 2 * l → end_at p k ≡ get_or p (n * 8 + l) (pos 0)
  unfolding end_at lane_line
  end-even e =
      let a : k / 2 % 8 ≡ l = omega arith in
      let b : k / 16 ≡ n = omega arith in
      let c : k % 2 ≡ 0 = omega arith in
      rw (a, b, c)

  pub end-odd : k ≡ n * 16 + 2 * l + 1 → end_at p k ≡ get_or p ((14 - n) * 8 + l) (pos 0)
  unfolding end_at lane_line
  end-odd e =
      let a : k / 2 % 8 ≡ l = omega arith in
      let b : k / 16 ≡ n = omega arith in
      let c : k % 2 ≡ 1 = omega arith in
      rw (a, b, c)

pub end-squares : (p : List ℤ) (k : ℕ) → k < 64 → square (get_or (ends_of p) (2 * k) (pos 0)) + square (get_or (ends_of p) (2 * k + 1) (pos 0)) ≡ end_squares p (k % 8) (k / 8)
unfolding ends_of end_squares lane_line
end-squares p k h =
    let a : get_or (upto (end_at p) 128) (2 * k) (pos 0) ≡ end_at p (2 * k) = get_or-upto (end_at p) 128 (2 * k) (pos 0) (omega arith) in
    let b : get_or (upto (end_at p) 128) (2 * k + 1) (pos 0) ≡ end_at p (2 * k + 1) = get_or-upto (end_at p) 128 (2 * k + 1) (pos 0) (omega arith) in
    let c : end_at p (2 * k) ≡ get_or p (k / 8 * 8 + k % 8) (pos 0) = end-even p (k / 8) (k % 8) (2 * k) (omega arith) (omega arith) (omega arith) in
    let d : end_at p (2 * k + 1) ≡ get_or p ((14 - k / 8) * 8 + k % 8) (pos 0) = end-odd p (k / 8) (k % 8) (2 * k + 1) (omega arith) (omega arith) (omega arith) in
    rw (a, b, c, d)

-- ---- weights

weigh-same : (kind : Lines) (e g : ℕ → ℕ) → ((n : ℕ) → n < 8 → e n ≡ g n) → weigh kind e ≡ weigh kind g
unfolding weigh
weigh-same Straight e g h = rw (h 0 (omega arith), h 1 (omega arith), h 2 (omega arith), h 3 (omega arith), h 4 (omega arith), h 5 (omega arith), h 6 (omega arith), h 7 (omega arith))
weigh-same Between e g h = rw (h 2 (omega arith), h 3 (omega arith), h 4 (omega arith), h 5 (omega arith), h 6 (omega arith), h 7 (omega arith))
weigh-same Diagonal e g h = rw (h 0 (omega arith), h 1 (omega arith), h 2 (omega arith), h 3 (omega arith), h 4 (omega arith), h 5 (omega arith), h 6 (omega arith), h 7 (omega arith))

-- a lane of the squares
pub lane-cost : (p : List ℤ) (kind : Lines) (l : ℕ) → l < 8 → weighed_of kind (squares_of p) l ≡ cost_of p kind l
unfolding weighed_of squares_of cost_of
lane-cost p kind l hl = weigh-same kind _ _ (λ n h. at n h)
  where
    at : (n : ℕ) → n < 8 → get_or (upto (λ k. end_squares p (k % 8) (k / 8)) 64) (n * 8 + l) 0 ≡ end_squares p l n
    at n h =
        let a : (n * 8 + l) % 8 ≡ l = omega arith in
        let b : (n * 8 + l) / 8 ≡ n = omega arith in
        get_or-upto _ 64 (n * 8 + l) 0 (omega arith) ∙ rw (a, b)

-- no cost from the squares of lines whose costs fit is too high
pub squares_fit : (p : List ℤ) (q : List ℕ) (kind : Lines) → q ≡ squares_of p → LaneCostsFit p kind → (l : ℕ) → l < 8 → weighed_of kind q l ≤ 880803840
squares_fit p q kind e h l hl = rw (e, lane-cost p kind l hl) (h.all l hl)

-- ---- the costs of lines p

module _ (q : List ℤ) (p : ℕ → ℤ) (l : ℕ) where
  straight-cost : ((n : ℕ) → n < 8 → lane_line q l n ≡ p n) → ((n : ℕ) → 8 ≤ n → n < 16 → lane_line q l n ≡ pos 0) → cost_of q Straight l ≡ cost_straight p
  unfolding cost_of weigh end_squares div_table square
  straight-cost h g =
      rw (
        h 0 (omega arith),
        h 1 (omega arith),
        h 2 (omega arith),
        h 3 (omega arith),
        h 4 (omega arith),
        h 5 (omega arith),
        h 6 (omega arith),
        h 7 (omega arith),
        g 8 (omega arith) (omega arith),
        g 9 (omega arith) (omega arith),
        g 10 (omega arith) (omega arith),
        g 11 (omega arith) (omega arith),
        g 12 (omega arith) (omega arith),
        g 13 (omega arith) (omega arith),
        g 14 (omega arith) (omega arith),
      )
      (omega (arith, straight-is p))

  between-cost : ((n : ℕ) → n < 14 → lane_line q l (n + 2) ≡ p n) → cost_of q Between l ≡ cost_between p
  unfolding cost_of weigh end_squares div_table
  between-cost h =
      rw (
        h 0 (omega arith),
        h 1 (omega arith),
        h 2 (omega arith),
        h 3 (omega arith),
        h 4 (omega arith),
        h 5 (omega arith),
        h 6 (omega arith),
        h 7 (omega arith),
        h 8 (omega arith),
        h 9 (omega arith),
        h 10 (omega arith),
      )
      (omega (arith, between_is p))

  diagonal-cost : ((n : ℕ) → n < 15 → lane_line q l n ≡ p n) → cost_of q Diagonal l ≡ cost_diagonal p
  unfolding cost_of weigh end_squares div_table
  diagonal-cost h =
      rw (
        h 0 (omega arith),
        h 1 (omega arith),
        h 2 (omega arith),
        h 3 (omega arith),
        h 4 (omega arith),
        h 5 (omega arith),
        h 6 (omega arith),
        h 7 (omega arith),
        h 8 (omega arith),
        h 9 (omega arith),
        h 10 (omega arith),
        h 11 (omega arith),
        h 12 (omega arith),
        h 13 (omega arith),
        h 14 (omega arith),
      )
      (omega (arith, diagonal-is p))

-- in the opposite order
diagonal-back : (p : ℕ → ℤ) → cost_diagonal (λ n. p (14 - n)) ≡ cost_diagonal p
unfolding div_table
diagonal-back p = omega (arith, diagonal-is p, diagonal-is (λ n. p (14 - n)))

-- THE COSTS of a lane are the standard's
module _ (s : List ℤ) (l : ℕ) (hl : l < 8) where
  pub cost-0 : cost_of (lane_lines s 8 0 Next) Diagonal l ≡ cost (lane_of s l) 0
  unfolding cost
  cost-0 = diagonal-cost _ (partial (lane_of s l) 0) l (λ n h. lines-0 s l hl n (omega arith))

  pub cost-1 : cost_of (lane_lines (neighbour_sums s 16 64 8) 4 2 Next) Between l ≡ cost (lane_of s l) 1
  unfolding cost
  cost-1 = between-cost _ (partial (lane_of s l) 1) l (lines-1 s l hl)

  pub cost-2 : cost_of (lane_lines (neighbour_sums s 16 64 8) 4 0 Same) Straight l ≡ cost (lane_of s l) 2
  unfolding cost
  cost-2 = straight-cost _ (partial (lane_of s l) 2) l (λ n h. lines-2 s l hl n (omega arith)) (λ n a b. straight_none _ l n hl a b)

  pub cost-3 : cost_of (lane_lines (neighbour_sums s 16 64 8) 4 2 Back) Between l ≡ cost (lane_of s l) 3
  unfolding cost
  cost-3 = between-cost _ (partial (lane_of s l) 3) l (lines-3 s l hl)

  pub cost-4 : cost_of (lane_lines s 8 0 Back) Diagonal l ≡ cost (lane_of s l) 4
  unfolding cost
  cost-4 = diagonal-cost _ (λ n. partial (lane_of s l) 4 (14 - n)) l (lines-4 s l hl) ∙ diagonal-back (partial (lane_of s l) 4)

  pub cost-5 : cost_of (lane_lines (neighbour_sums s 128 8 64) 4 2 Back) Between l ≡ cost (lane_of s l) 5
  unfolding cost
  cost-5 = between-cost _ (partial (lane_of s l) 5) l (lines-5 s l hl)

  pub cost-6 : cost_of (lane_lines (neighbour_sums s 128 8 64) 4 0 Same) Straight l ≡ cost (lane_of s l) 6
  unfolding cost
  cost-6 = straight-cost _ (partial (lane_of s l) 6) l (λ n h. lines-6 s l hl n (omega arith)) (λ n a b. straight_none _ l n hl a b)

  pub cost-7 : cost_of (lane_lines (neighbour_sums s 128 8 64) 4 2 Next) Between l ≡ cost (lane_of s l) 7
  unfolding cost
  cost-7 = between-cost _ (partial (lane_of s l) 7) l (lines-7 s l hl)

-- they fit
pub cost-fits : (s : List ℤ) → Within s 128 → (l d : ℕ) → d < 8 → cost (lane_of s l) d ≤ 880803840
unfolding lane_of
cost-fits s w l d h = rw (costs-are (lane_of s l) d h) at ((costs-fit (lane_of s l) (λ i j hi hj. w.all (i * 64 + j * 8 + l))).all d h)

-- what `cost` asks of the lines p of direction d
pub cost-ready : (s z p : List ℤ) (rows first : ℕ) (step : Step) (kind : Lines) (d : ℕ) → Within s 128 → Within z 256 → rows ≤ 8 → d < 8 → p ≡ lane_lines z rows first step
    → ((l : ℕ) → l < 8 → cost_of (lane_lines z rows first step) kind l ≡ cost (lane_of s l) d) → Within p 2048 × LaneCostsFit p kind
cost-ready s z p rows first step kind d ws wz hr hd e law = (rw e (lines-within z rows first step wz hr), record { all = λ l hl. rw (e, law l hl) (cost-fits s ws l d hd) })

-- ---- entries written

module _ (c : List ℕ) (at : ℕ) (q : List ℕ) where
  pub written_none : c ≡ written c at q 0
  unfolding written
  written_none = refl

  pub written-more : (n : ℕ) (l : List ℕ) → l ≡ written c at q n → set l (at + n) (get_or q n 0) ≡ written c at q (n + 1)
  unfolding written
  written-more n l e = rw (e, add-one n)

  pub length-written : (n : ℕ) → length (written c at q n) ≡ length c
  unfolding written
  length-written zero = refl
  length-written (suc n) = length-set (written c at q n) (at + n) (get_or q n 0) ∙ length-written n

  -- a list whose first entries are f's, with more of them written
  pub written-upto : (f : ℕ → ℕ) → take at c ≡ upto f at → (n : ℕ) → at + n ≤ length c → ((k : ℕ) → k < n → get_or q k 0 ≡ f (at + k))
      → take (at + n) (written c at q n) ≡ upto f (at + n)
  unfolding written
  written-upto f e zero h g = upto-at f _ at (at + 0) (omega arith) e
  written-upto f e (suc n) h g =
      upto-at f _ (at + n + 1) (at + suc n) (omega arith)
      (upto-more f (written c at q n) (at + n) (get_or q n 0) (written-upto f e n (omega arith) (λ k l. g k (omega arith))) (omega (arith, length-written n)) (g n (omega arith)))

-- the costs q of one more direction, from its lines p
pub costs-more : (s z p : List ℤ) (c q r : List ℕ) (rows first : ℕ) (step : Step) (kind : Lines) (d : ℕ) → d < 8 → CostsTo s c (d * 8) → p ≡ lane_lines z rows first step
    → q ≡ upto (cost_of p kind) 8 → r ≡ written c (d * 8) q 8 → ((l : ℕ) → l < 8 → cost_of (lane_lines z rows first step) kind l ≡ cost (lane_of s l) d)
    → CostsTo s r (d * 8 + 8)
costs-more s z p c q r rows first step kind d hd t ep eq er law = record {
  size = ap length er ∙ length-written c (d * 8) q 8 ∙ t.size;
  first = rw er (written-upto c (d * 8) q (cost_at s) t.first 8 (omega (arith, t.size)) (λ l hl. at l hl));
}
  where
    at : (l : ℕ) → l < 8 → get_or q l 0 ≡ cost (lane_of s ((d * 8 + l) % 8)) ((d * 8 + l) / 8)
    at l hl =
        let a : (d * 8 + l) % 8 ≡ l = omega arith in
        let b : (d * 8 + l) / 8 ≡ d = omega arith in
        rw (a, b, eq, ep) (get_or-upto (cost_of (lane_lines z rows first step) kind) 8 l 0 hl ∙ law l hl)
