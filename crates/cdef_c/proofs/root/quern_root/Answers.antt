-- `cdef_c::root::quern_root` meets its contract: its two tests are those of the definition.
-- Kept, the answer of `float_from_bits`: the search finds it only with `nan_bits` unfolded, which the function's attribute can't name.
use mathlib.Core.Path.{◌≡◌, refl, sym, ap, ◌∙◌, subst}
use mathlib.Core.Bool.{Bool, true, false, cond, ◌&&◌}
use lib.Dec.{T}
use lib.Ieee.{Float, binary64, inf, le, lt, of_bits, nan_bits}
use Rattle.cdef_spec.specs.Root.{least_normal, root_of}
use borrow.Author.Rules.{rules}
use Rattle.cdef_c.proofs.root.quern_root.Goals as goal
use Rattle.cdef_c.proofs.root.quern_root.Goals.{else-v-via-then-v+else-v-2, else-v-via-else-v}

low-is : of_bits binary64 0x10_0000_0000_0000 ≡ least_normal
unfolding of_bits
low-is = refl

top-is : of_bits binary64 0x7ff0_0000_0000_0000 ≡ inf false
unfolding of_bits
top-is = refl

-- the tests with the definition's two bounds
from_low : (v : Float) (t : Bool) → le (of_bits binary64 0x10_0000_0000_0000) v ≡ t → le least_normal v ≡ t
from_low v t e = subst (λ (z : Float). le z v ≡ t) low-is e

to-top : (v : Float) (t : Bool) → lt v (of_bits binary64 0x7ff0_0000_0000_0000) ≡ t → lt v (inf false) ≡ t
to-top v t e = subst (λ (z : Float). lt v z ≡ t) top-is e

both : (v : Float) → le (of_bits binary64 0x10_0000_0000_0000) v ≡ true → lt v (of_bits binary64 0x7ff0_0000_0000_0000) ≡ true → le least_normal v && lt v (inf false) ≡ true
both v a b = rw (from_low v true a) (to-top v true b)

pub float_from_bits-t-3 : goal.float_from_bits-t-3
unfolding nan_bits
float_from_bits-t-3 c = search rules

pub root-requires : goal.root-requires
root-requires c = subst T (sym (both _ c.if-v.true c.if-v-2.true)) tt

pub returns-then-v-2 : goal.returns-then-v-2
returns-then-v-2 c = c.root.ensures.0 ∙ sym (ap (λ (t : Bool). cond t (root_of c.args.v) c.args.v) (both c.args.v c.if-v.true c.if-v-2.true))

pub returns : goal.returns
returns c =
    elim c.else-v.branch [
      | else-v-via-then-v+else-v-2 w ↦ rw (from_low c.args.v true w.if-v.true, to-top c.args.v false w.if-v-2.false)
      | else-v-via-else-v w ↦ rw (from_low c.args.v false w.if-v.false)
    ]
