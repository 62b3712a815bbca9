-- `direction_lane_costs::first_costs` meets its contract.
use mathlib.Core.Path.{◌≡◌, refl, sym, ap, ◌∙◌}
use native.Mathlib.Omega.{arith}
use borrow.Author.Tests.{leb-true}
use lib.ListN.{length}
use Rattle.arith_sample.specs.Bounds.{Within}
use Rattle.direction_lane_sums.specs.LinesLaws.{pairs-within, length_pairs}
use Rattle.direction_lane_costs.specs.CostsLaws.{cost-0, cost-1, cost-2, cost-3, cost-ready, costs-more}
use Rattle.direction_lane_sums.specs.declared.Step.TheVariants.{Same, Next, Back}
use Rattle.direction_lane_costs.specs.declared.Lines.TheVariants.{Straight, Between, Diagonal}
use Rattle.direction_lane_costs.proofs.first_costs.Goals as goal
use Rattle.direction_lane_costs.proofs.first_costs.Goals.{After-pairs-h, Start}

-- the samples, and the sums of neighbours
wide : (s : Start) → Within s.args.s.now 256
wide s = record { all = λ k. omega (arith, s.requires.within.all k) }

pairs-wide : (c : After-pairs-h) → Within c.pairs-h.result 256
pairs-wide c = rw c.pairs-h.ensures (pairs-within _ 16 64 8 c.requires.within)

pairs-length : (c : After-pairs-h) → length c.pairs-h.result ≡ 256
pairs-length c = ap length c.pairs-h.ensures ∙ length_pairs _ 16 64 8

pub pairs-h-requires : goal.pairs-h-requires
pairs-h-requires c = (leb-true 512 512 refl, c.requires.within)

pub lines-requires : goal.lines-requires
lines-requires c = (leb-true 8 8 refl, leb-true 8 9 refl, rw c.told-s (leb-true 512 512 refl), wide c.before.before.before)

pub cost-requires : goal.cost-requires
cost-requires c = cost-ready _ _ _ 8 0 Next Diagonal 0 c.requires.within (wide c.before.before.before.before.before) (leb-true 8 8 refl) (leb-true 1 8 refl) c.lines.ensures (cost-0 _)

pub put-requires : goal.put-requires
put-requires c = leb-true 1 8 refl

pub slice_bounds-lines-end-2 : goal.slice_bounds-lines-end-2
slice_bounds-lines-end-2 c = sym (pairs-length c.before.before.before.before.before.before.before.before.before)

pub lines-requires-2 : goal.lines-requires-2
lines-requires-2 c = (leb-true 4 8 refl, leb-true 6 9 refl, rw (pairs-length c.before.before.before.before.before.before.before.before.before) (leb-true 256 256 refl), pairs-wide c.before.before.before.before.before.before.before.before.before)

pub cost-requires-2 : goal.cost-requires-2
cost-requires-2 c = cost-ready _ _ _ 4 2 Next Between 1 c.requires.within (pairs-wide c.before.before.before.before.before.before.before.before.before.before.before) (leb-true 4 8 refl) (leb-true 2 8 refl) c.lines-2.ensures (λ l h. rw c.pairs-h.ensures (cost-1 _ l h))

pub put-requires-2 : goal.put-requires-2
put-requires-2 c = leb-true 2 8 refl

pub slice_bounds-lines-end-3 : goal.slice_bounds-lines-end-3
slice_bounds-lines-end-3 c = sym (pairs-length c.before.before.before.before.before.before.before.before.before.before.before.before.before.before.before.before)

pub lines-requires-3 : goal.lines-requires-3
lines-requires-3 c = (leb-true 4 8 refl, leb-true 4 9 refl, rw (pairs-length c.before.before.before.before.before.before.before.before.before.before.before.before.before.before.before.before) (leb-true 256 256 refl), pairs-wide c.before.before.before.before.before.before.before.before.before.before.before.before.before.before.before.before)

pub cost-requires-3 : goal.cost-requires-3
cost-requires-3 c = cost-ready _ _ _ 4 0 Same Straight 2 c.requires.within (pairs-wide c.before.before.before.before.before.before.before.before.before.before.before.before.before.before.before.before.before.before) (leb-true 4 8 refl) (leb-true 3 8 refl) c.lines-3.ensures (λ l h. rw c.pairs-h.ensures (cost-2 _ l h))

pub put-requires-3 : goal.put-requires-3
put-requires-3 c = leb-true 3 8 refl

pub slice_bounds-lines-end-4 : goal.slice_bounds-lines-end-4
slice_bounds-lines-end-4 c = sym (pairs-length c.before.before.before.before.before.before.before.before.before.before.before.before.before.before.before.before.before.before.before.before.before.before.before)

pub lines-requires-4 : goal.lines-requires-4
lines-requires-4 c = (leb-true 4 8 refl, leb-true 6 9 refl, rw (pairs-length c.before.before.before.before.before.before.before.before.before.before.before.before.before.before.before.before.before.before.before.before.before.before.before) (leb-true 256 256 refl), pairs-wide c.before.before.before.before.before.before.before.before.before.before.before.before.before.before.before.before.before.before.before.before.before.before.before)

pub cost-requires-4 : goal.cost-requires-4
cost-requires-4 c = cost-ready _ _ _ 4 2 Back Between 3 c.requires.within (pairs-wide c.before.before.before.before.before.before.before.before.before.before.before.before.before.before.before.before.before.before.before.before.before.before.before.before.before) (leb-true 4 8 refl) (leb-true 4 8 refl) c.lines-4.ensures (λ l h. rw c.pairs-h.ensures (cost-3 _ l h))

pub put-requires-4 : goal.put-requires-4
put-requires-4 c = leb-true 4 8 refl

pub returns : goal.returns
returns c = let a = costs-more _ _ _ _ _ _ 8 0 Next Diagonal 0 (leb-true 1 8 refl) c.requires.costs_to c.lines.ensures c.cost.ensures c.put.ensures (cost-0 _) in
    let b = costs-more _ _ _ _ _ _ 4 2 Next Between 1 (leb-true 2 8 refl) a c.lines-2.ensures c.cost-2.ensures c.put-2.ensures (λ l h. rw c.pairs-h.ensures (cost-1 _ l h)) in
    let d = costs-more _ _ _ _ _ _ 4 0 Same Straight 2 (leb-true 3 8 refl) b c.lines-3.ensures c.cost-3.ensures c.put-3.ensures (λ l h. rw c.pairs-h.ensures (cost-2 _ l h)) in
    costs-more _ _ _ _ _ _ 4 2 Back Between 3 (leb-true 4 8 refl) d c.lines-4.ensures c.cost-4.ensures c.put-4.ensures (λ l h. rw c.pairs-h.ensures (cost-3 _ l h))
