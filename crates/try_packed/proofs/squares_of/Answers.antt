-- `try_packed::squares_of` meets its contract.
use mathlib.Core.Path.{◌≡◌, ◌∙◌}
use Prim.Native.Nat.{ℕ, ◌+◌, ◌*◌, ◌≤◌, ◌<◌}
use native.Mathlib.Omega.{arith}
use lib.ListN.{get_or}
use Rattle.cdef_spec.specs.Words.{sum}
use Rattle.cdef_spec.specs.Distance.{squared_difference}
use mathlib.Core.List.{List}
use Rattle.distance_sums.specs.SumLaws.{sum-none, sum_more}
use Rattle.try_packed.specs.RowLaws.{run_squares, run_is, runs-all, run-high}
use Rattle.try_packed.proofs.squares_of.Goals as goal

-- the squares of an iteration
one : (a s : List ℕ) (from n i r : ℕ) → i < n → ((k : ℕ) → k < n * 16 → (get_or a k 0 < 4096) × (get_or s (from + k) 0 < 4096)) → r ≡ sum 16 (λ j. squared_difference (get_or a (i * 16 + j) 0) (get_or s (from + i * 16 + j) 0))
    → (r ≡ run_squares a s from i) × (run_squares a s from i ≤ 268304400)
one a s from n i r h low e = (run_is _ _ _ _ _ e, run-high _ _ _ _ (λ j k. low _ (omega arith)))

pub loop-i-init : goal.loop-i-init
loop-i-init c = (sum-none _, omega arith, omega arith)

pub overflow_mul-i : goal.overflow_mul-i
overflow_mul-i c = omega (arith, c.requires.inside.0)

pub overflow_mul-i-in-loop-i : goal.overflow_mul-i-in-loop-i
overflow_mul-i-in-loop-i c = omega (arith, c.requires.inside.0)

pub overflow_add-from : goal.overflow_add-from
overflow_add-from c = omega (arith, c.requires.inside.1 c.loop-i.i c.loop-i-test.true)

pub run_squares-t-requires : goal.run_squares-t-requires
run_squares-t-requires c =
    let i = c.loop-i.i in record {
      inside = (omega (arith, c.requires.inside.0), c.requires.inside.1 i c.loop-i-test.true);
      samples_taken = λ j h.
          let z : c.args.from + i * 16 + j ≡ c.args.from + (i * 16 + j) = omega arith in
          let l = c.requires.samples_taken (i * 16 + j) (omega (arith, c.loop-i-test.true)) in
          (l.0, rw z l.1);
    }

pub overflow_add-t : goal.overflow_add-t
overflow_add-t c = omega (arith, one c.args.a.now c.args.s.now c.args.from c.args.n c.loop-i.i _ c.loop-i-test.true c.requires.samples_taken c.run_squares-t.ensures, c.requires.inside.0)

pub loop-i-preserved : goal.loop-i-preserved
loop-i-preserved c =
    let l = c.loop-i in
    let s = one c.args.a.now c.args.s.now c.args.from c.args.n l.i _ c.loop-i-test.true c.requires.samples_taken c.run_squares-t.ensures in
    (rw (l.invariant.0, s.0) (sum_more _ _), omega arith, omega (arith, s))

pub returns : goal.returns
returns c = let l = c.loop-i in let e : l.i ≡ c.args.n = omega arith in l.invariant.0 ∙ rw e (runs-all _ _ _ _)
