-- `arith_totals::add_twelve` meets its contract.
use mathlib.Core.Path.{◌≡◌, ◌∙◌}
use mathlib.Core.List.{List}
use Prim.Native.Nat.{ℕ, ◌+◌, ◌*◌, ◌^◌, ◌≤◌, ◌<◌}
use native.Mathlib.Omega.{arith}
use lib.IntN.{ℤ, pos, ◌+ℤ◌}
use lib.ListN.{get_or, set}
use mir.Syntax.{w64}
use mir.Val.{SFits, to_z, of_z}
use Rattle.cdef_spec.specs.LoopForm.{signed, add_turns}
use Rattle.arith_totals.specs.Turns.{plain_of, Low}
use Rattle.arith_totals.specs.TurnLaws.{sum_fits, sum_is, turns-start, turn_at, turn_low, turn_more}
use Rattle.arith_totals.proofs.add_twelve.Goals as goal

-- the totals m, t distances added to l: one more is added
module _ {l m : List ℤ} (base t : ℕ) (d : List ℕ) (w : Low l) (e : m ≡ signed (add_turns (plain_of l) base (λ k. get_or d k 0) t)) (h : (k : ℕ) → k < 12 → get_or d k 0 < 2 ^ 53) (b : t < 12) where
  low : get_or (add_turns (plain_of l) base (λ k. get_or d k 0) t) (base + t) 0 ≤ 65 * 2 ^ 53
  low = turn_low l w base (λ k. get_or d k 0) t m e (λ k g. h k (omega arith)) (base + t)

  step-fits : SFits w64 (to_z w64 (of_z w64 (get_or m (base + t) (pos 0))) +ℤ to_z w64 (get_or d t 0))
  step-fits = sum_fits _ _ _ (turn_at l w base (λ k. get_or d k 0) t m e (base + t)) low (h t b)

  step : set m (base + t) (to_z w64 (of_z w64 (to_z w64 (of_z w64 (get_or m (base + t) (pos 0))) +ℤ to_z w64 (get_or d t 0)))) ≡ signed (add_turns (plain_of l) base (λ k. get_or d k 0) (t + 1))
  step = rw (sum_is _ _ _ (turn_at l w base (λ k. get_or d k 0) t m e (base + t)) low (h t b)) (turn_more l w base (λ k. get_or d k 0) t m e)

pub loop-t-init : goal.loop-t-init
loop-t-init c = (turns-start _ c.requires.1 _ _, omega arith)

pub overflow_cast-totals : goal.overflow_cast-totals
overflow_cast-totals c = omega (arith, c.requires.2 c.loop-t.t (omega arith))

pub overflow_add-totals-in-loop-t : goal.overflow_add-totals-in-loop-t
overflow_add-totals-in-loop-t c = step-fits c.args.base c.loop-t.t c.args.distances c.requires.1 c.loop-t.invariant.0 c.requires.2 (omega arith)

pub loop-t-preserved : goal.loop-t-preserved
loop-t-preserved c = (step c.args.base c.loop-t.t c.args.distances c.requires.1 c.loop-t.invariant.0 c.requires.2 (omega arith), omega arith)

pub returns : goal.returns
returns c = let e : c.loop-t.t ≡ 12 = omega arith in c.loop-t.invariant.0 ∙ rw e
