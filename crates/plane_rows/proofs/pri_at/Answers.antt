-- `plane_rows::pri_at` meets its contract.
use Rattle.std.proofs.Common.{◌≡◌, ◌∙◌, arith, ℕ, ℤ, List, get_or, ◌+◌}
use Rattle.arith_sample.proofs.Joins.{Is, back_is}
use Rattle.filter_limits.specs.declared.Pair.{Pair}
use Rattle.filter_limits.specs.Limits.{HeldPair}
use Rattle.filter_rows.specs.declared.Strength.{Strength}
use Rattle.filter_rows.specs.declared.Taps.{Taps}
use Rattle.filter_rows.specs.Pairs.{pair_of}
use Rattle.filter_rows.specs.Sums.{InRange, pri_at}
use Rattle.filter_rows.proofs.Bounds.{size-pri, small-back}
use Rattle.plane_taps.specs.Plain.{AllLow, pri_plain}
use Rattle.plane_taps.specs.PlainLaws.{low_held, pri-plain}
use Rattle.plane_taps.specs.ReachLaws.{reached-all}
use Rattle.plane_rows.specs.LaneLaws.{below, pair-low, free-is}
use Rattle.plane_rows.proofs.pri_at.Goals as goal

held : (l : List ℕ) → AllLow l → (k o : ℕ) (p : Pair) → p ≡ pair_of l k o → HeldPair p
held l h k o p e = rw e (low_held (pair-low l h k o))

-- the sum, from the taps as they were loaded
sum : (l : List ℕ) (h : AllLow l) (k : ℕ) (t : Taps) (f : Strength) → InRange f → (z : ℤ) (p q : Pair) → z ≡ pri_plain p q (get_or l k 0) f → p ≡ pair_of l k t.p0 → q ≡ pair_of l k t.p1 → Is z (pri_at l k t f) 3840
sum l h k t f r z p q e a b = record { is = e ∙ rw (a, b) (pri-plain l h k t f); small = size-pri l k t f r }

pub overflow_add-i : goal.overflow_add-i
overflow_add-i c = omega (arith, c.requires.0.p0.high)

pub offset_bounds-src-i : goal.offset_bounds-src-i
offset_bounds-src-i c = omega (arith, c.requires.0.p0.high)

pub bounds-src-i : goal.bounds-src-i
bounds-src-i c = omega (arith, c.requires.0.p0.high)

pub load-requires : goal.load-requires
load-requires c = (reached-all c.requires.0 c.args.j c.requires.1).p0

pub load-requires-2 : goal.load-requires-2
load-requires-2 c = (reached-all c.requires.0 c.args.j c.requires.1).p1

pub pri_sum-s-requires : goal.pri_sum-s-requires
pri_sum-s-requires c =
    let l = c.requires.2 in
    (held _ l _ _ _ c.load.ensures, held _ l _ _ _ c.load-2.ensures, omega (arith, below c.args.src.now l (c.args.k + c.args.j)), c.requires.3)

pub raised-requires : goal.raised-requires
raised-requires c =
    let l = c.requires.2 in
    (omega (arith, below c.args.src.now l (c.args.k + c.args.j)), small-back (sum _ l _ c.args.t _ c.requires.3 _ _ _ c.pri_sum-s.ensures c.load.ensures c.load-2.ensures) (omega arith) (omega arith))

pub returns : goal.returns
returns c =
    let l = c.requires.2 in
    free-is _ l _ _ _ _ (back_is (sum _ l _ c.args.t _ c.requires.3 _ _ _ c.pri_sum-s.ensures c.load.ensures c.load-2.ensures) (omega arith)) c.raised.ensures
