-- `arith_strength::adjust_pri` meets its contract.
use mathlib.Core.Path.{◌≡◌, refl, ◌∙◌}
use mathlib.Core.Bool.{Bool, true, false, cond}
use native.Mathlib.Omega.{arith}
use native.Mathlib.Nat.{mul-le-mul}
use Prim.Native.Nat.{ℕ, ◌+◌, ◌*◌, ◌/◌, ◌≤◌, min}
use borrow.Author.Tests.{eqb-true, ne_eqb}
use lib.Dec.{eqb}
use Rattle.cdef_spec.specs.Standard.{floor_log2, adjust_pri}
use Rattle.cdef_spec.specs.LeafLaws.{floor_log2-zero}
use Rattle.arith_strength.proofs.adjust_pri.Goals as goal

-- floor_log2 0 is 0, so the definition's test of var >> 6 changes nothing
held : (n : ℕ) → cond (eqb n 0) 0 (min (floor_log2 n) 12) ≡ min (floor_log2 n) 12
held n = go (eqb n 0) refl
  where
    go : (t : Bool) → eqb n 0 ≡ t → cond t 0 (min (floor_log2 n) 12) ≡ min (floor_log2 n) 12
    go true e = rw (eqb-true n 0 e, floor_log2-zero)
    go false e = refl

on : (p v l : ℕ) → (v ≡ 0 → ⊥) → l ≡ min (floor_log2 (v / 64)) 12 → (p * (4 + l) + 8) / 16 ≡ adjust_pri p v
unfolding adjust_pri
on p v l h e = rw (ne_eqb v 0 h, held (v / 64), ← e)

product : (p l : ℕ) → p ≤ 65535 → l ≤ 12 → p * (4 + l) ≤ 65535 * 16
product p l h k = let e : 4 + l ≤ 16 = omega arith in mul-le-mul h e

pub returns-then-var-eq0 : goal.returns-then-var-eq0
unfolding adjust_pri
returns-then-var-eq0 c = rw c.if-var-eq0.true

pub overflow_mul-result : goal.overflow_mul-result
overflow_mul-result c = omega (arith, product c.args.pri c.min-l.result c.requires (omega arith))

pub overflow_add-result-2 : goal.overflow_add-result-2
overflow_add-result-2 c = omega (arith, product c.args.pri c.min-l.result c.requires (omega arith))

pub returns : goal.returns
returns c = on _ _ _ c.if-var-eq0.false (c.min-l.ensures ∙ rw c.log2_floor.ensures)
