-- `distance_sums::block_squares` meets its contract.
use Rattle.std.proofs.Common.{◌≡◌, ℕ, ◌+◌, ◌*◌, ◌≤◌, ◌<◌, List, get_or, ℤ, pos, ◌-ℤ◌, w16, to_z, of_z, ap, ◌∙◌, rules, arith}
use Rattle.cdef_spec.specs.SignedLaws.{back, size-diff}
use Rattle.cdef_spec.specs.Standard.{square}
use Rattle.cdef_spec.specs.Distance.{squared_difference}
use Rattle.arith_sample.specs.FromFn.{from-each}
use Rattle.arith_sample.specs.Upto.{get_or-upto}
use Rattle.distance_sums.specs.SumLaws.{sum-none, sum-two, difference-square}
use Rattle.distance_sums.specs.Blocks.{Below, differences_of}
use Rattle.distance_sums.specs.BlockLaws.{square-high}
use Rattle.distance_sums.proofs.block_squares.Goals as goal
use Rattle.distance_sums.proofs.block_squares.Goals.{After-square_of-in-loop-k}

-- a difference squared, by its place
one : (a b : List ℕ) (v : List ℤ) (k r : ℕ) → Below a 4096 → Below b 4096 → v ≡ differences_of a b → k < 64 → r ≡ square (to_z w16 (of_z w16 (get_or v k (pos 0))))
    → (r ≡ squared_difference (get_or a k 0) (get_or b k 0)) × (squared_difference (get_or a k 0) (get_or b k 0) ≤ 16769025)
unfolding differences_of
one a b v k r x y e h er =
    let d : get_or v k (pos 0) ≡ pos (get_or a k 0) -ℤ pos (get_or b k 0) = rw e (get_or-upto (λ n. pos (get_or a n 0) -ℤ pos (get_or b n 0)) 64 k (pos 0) h) in
    let s : to_z w16 (of_z w16 (get_or v k (pos 0))) ≡ pos (get_or a k 0) -ℤ pos (get_or b k 0) = rw d (back w16 _ (omega (arith, size-diff (get_or a k 0) (get_or b k 0), x.each k h, y.each k h))) in
    (er ∙ ap square s ∙ difference-square (get_or a k 0) (get_or b k 0), square-high a b k x y h)

-- the two squares of an iteration
two : (c : After-square_of-in-loop-k) → let a = c.args.a.now in let b = c.args.b.now in let k = 2 * c.loop-k.k in
    (c.square_of.result ≡ squared_difference (get_or a k 0) (get_or b k 0)) × (squared_difference (get_or a k 0) (get_or b k 0) ≤ 16769025)
    × (c.square_of-in-loop-k.result ≡ squared_difference (get_or a (k + 1) 0) (get_or b (k + 1) 0)) × (squared_difference (get_or a (k + 1) 0) (get_or b (k + 1) 0) ≤ 16769025)
two c =
    let l = c.loop-k in
    let p = one _ _ _ _ _ c.requires.0 c.requires.1 l.invariant.3 (omega arith) c.square_of.ensures in
    let q = one _ _ _ _ _ c.requires.0 c.requires.1 l.invariant.3 (omega arith) c.square_of-in-loop-k.ensures in
    (p.0, p.1, q.0, q.1)

pub loop-k-init : goal.loop-k-init
unfolding differences_of
loop-k-init c = (sum-none _, omega arith, omega arith, from-each _ _ (λ i y q e. search rules) _ 64 c.from_fn-v.ensures.items, c.requires.0, c.requires.1)

pub overflow_add-t : goal.overflow_add-t
overflow_add-t c = omega (arith, two c)

pub overflow_add-t-in-loop-k : goal.overflow_add-t-in-loop-k
overflow_add-t-in-loop-k c = omega (arith, two c)

pub loop-k-preserved : goal.loop-k-preserved
loop-k-preserved c =
    let l = c.loop-k in
    let s = two c in
    (rw (l.invariant.0, s.0, s.2) (sum-two _ l.k), omega arith, omega (arith, s.0, s.1, s.2, s.3), l.invariant.3, c.requires.0, c.requires.1)

pub returns : goal.returns
returns c = let e : 2 * c.loop-k.k ≡ 64 = omega arith in c.loop-k.invariant.0 ∙ rw e
