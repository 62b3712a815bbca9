-- `plane_rows::sec_at` meets its contract.
use Rattle.std.proofs.Common.{◌≡◌, ◌∙◌, arith, ℕ, ℤ, List, get_or, ◌+◌}
use Rattle.arith_sample.proofs.Joins.{Is, back_is}
use Rattle.filter_limits.specs.declared.Pair.{Pair}
use Rattle.filter_limits.specs.Limits.{HeldPair}
use Rattle.filter_rows.specs.declared.Strength.{Strength}
use Rattle.filter_rows.specs.declared.Taps.{Taps}
use Rattle.filter_rows.specs.Pairs.{pair_of}
use Rattle.filter_rows.specs.Sums.{InRange, sec_at}
use Rattle.filter_rows.proofs.Bounds.{size-sec, small-back}
use Rattle.plane_taps.specs.Plain.{AllLow, sec_plain}
use Rattle.plane_taps.specs.PlainLaws.{low_held, sec-plain}
use Rattle.plane_taps.specs.ReachLaws.{reached-all}
use Rattle.plane_rows.specs.LaneLaws.{below, pair-low, free-is}
use Rattle.plane_rows.proofs.sec_at.Goals as goal

held : (l : List ℕ) → AllLow l → (k o : ℕ) (p : Pair) → p ≡ pair_of l k o → HeldPair p
held l h k o p e = rw e (low_held (pair-low l h k o))

-- the sum, from the taps as they were loaded
sum : (l : List ℕ) (h : AllLow l) (k : ℕ) (t : Taps) (f : Strength) → InRange f → (z : ℤ) (p q r s : Pair) → z ≡ sec_plain p q r s (get_or l k 0) f → p ≡ pair_of l k t.q0 → q ≡ pair_of l k t.q1 → r ≡ pair_of l k t.r0 → s ≡ pair_of l k t.r1 → Is z (sec_at l k t f) 7680
sum l h k t f i z p q r s e a b c d = record { is = e ∙ rw (a, b, c, d) (sec-plain l h k t f); small = size-sec l k t f i }

pub overflow_add-i : goal.overflow_add-i
overflow_add-i c = omega (arith, c.requires.0.p0.high)

pub offset_bounds-src-i : goal.offset_bounds-src-i
offset_bounds-src-i c = omega (arith, c.requires.0.p0.high)

pub bounds-src-i : goal.bounds-src-i
bounds-src-i c = omega (arith, c.requires.0.p0.high)

pub load-q0-requires : goal.load-q0-requires
load-q0-requires c = (reached-all c.requires.0 c.args.j c.requires.1).q0

pub load-q1-requires : goal.load-q1-requires
load-q1-requires c = (reached-all c.requires.0 c.args.j c.requires.1).q1

pub load-r0-requires : goal.load-r0-requires
load-r0-requires c = (reached-all c.requires.0 c.args.j c.requires.1).r0

pub load-r1-requires : goal.load-r1-requires
load-r1-requires c = (reached-all c.requires.0 c.args.j c.requires.1).r1

pub sec_sum-requires : goal.sec_sum-requires
sec_sum-requires c =
    let l = c.requires.2 in
    (held _ l _ _ _ c.load-q0.ensures, held _ l _ _ _ c.load-q1.ensures, held _ l _ _ _ c.load-r0.ensures, held _ l _ _ _ c.load-r1.ensures, omega (arith, below c.args.src.now l (c.args.k + c.args.j)), c.requires.3)

pub raised-requires : goal.raised-requires
raised-requires c =
    let l = c.requires.2 in
    (omega (arith, below c.args.src.now l (c.args.k + c.args.j)), small-back (sum _ l _ c.args.t _ c.requires.3 _ _ _ _ _ c.sec_sum.ensures c.load-q0.ensures c.load-q1.ensures c.load-r0.ensures c.load-r1.ensures) (omega arith) (omega arith))

pub returns : goal.returns
returns c =
    let l = c.requires.2 in
    free-is _ l _ _ _ _ (back_is (sum _ l _ c.args.t _ c.requires.3 _ _ _ _ _ c.sec_sum.ensures c.load-q0.ensures c.load-q1.ensures c.load-r0.ensures c.load-r1.ensures) (omega arith)) c.raised.ensures
