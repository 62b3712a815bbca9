-- `arith_sample::moved` meets its contract.
use mathlib.Core.Path.{◌≡◌, sym, ◌∙◌}
use Prim.Native.Nat.{◌≤◌}
use native.Mathlib.Omega.{arith}
use Rattle.arith_sample.specs.SampleLaws.{moved-neg, moved-pos}
use Rattle.arith_sample.proofs.Sums16.{back, near_fits, moved-fits, moved_back}
use Rattle.arith_sample.proofs.moved.Goals as goal
use Rattle.arith_sample.proofs.moved.Goals.{Joined-sum-lt0, else-sum-lt0, then-sum-lt0}

small : (c : Joined-sum-lt0) → c.if-sum-lt0.g-bits ≤ 8
small c = elim c.if-sum-lt0.branch [ then-sum-lt0 w ↦ omega arith | else-sum-lt0 w ↦ omega arith ]

pub overflow_add-result : goal.overflow_add-result
overflow_add-result c = near_fits c.before.args.c c.if-sum-lt0.g-bits c.before.args.sum c.before.requires.0 (small c) c.before.requires.1

pub overflow_add-result-2 : goal.overflow_add-result-2
overflow_add-result-2 c = moved-fits c.before.args.c c.if-sum-lt0.g-bits c.before.args.sum c.before.requires.0 (small c) c.before.requires.1

pub returns : goal.returns
returns c = let s = c.before in
    moved_back s.args.c c.if-sum-lt0.g-bits s.args.sum s.requires.0 (small c) s.requires.1
    ∙ elim c.if-sum-lt0.branch [ then-sum-lt0 w ↦ (let e : c.if-sum-lt0.g-bits ≡ 7 = omega (arith, w.g-is) in rw e (sym (moved-neg s.args.c s.args.sum (rw (back s.args.sum (omega (arith, s.requires.1))) at w.if-sum-lt0.true)))) | else-sum-lt0 w ↦ (let e : c.if-sum-lt0.g-bits ≡ 8 = omega (arith, w.g-is) in rw e (sym (moved-pos s.args.c s.args.sum (rw (back s.args.sum (omega (arith, s.requires.1))) at w.if-sum-lt0.false)))) ]
