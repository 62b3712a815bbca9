-- `plane_rows::both_at` meets its contract.
use Rattle.std.proofs.Common.{◌≡◌, ◌∙◌, arith, ℕ, List, get_or}
use Rattle.filter_limits.specs.declared.Pair.{Pair}
use Rattle.filter_rows.specs.declared.Strength.{Strength}
use Rattle.filter_rows.specs.declared.Taps.{Taps}
use Rattle.filter_rows.specs.Pairs.{pair_of}
use Rattle.plane_taps.specs.Plain.{AllLow, Low, first_of}
use Rattle.plane_taps.specs.PlainLaws.{both-plain}
use Rattle.plane_taps.specs.ReachLaws.{reached-all}
use Rattle.plane_taps.specs.declared.plain.Part.{Part}
use Rattle.plane_rows.specs.Rows.{first_at}
use Rattle.plane_rows.specs.LaneLaws.{below, pair-low, first-bounded}
use Rattle.plane_rows.proofs.both_at.Goals as goal

low : (l : List ℕ) → AllLow l → (k o : ℕ) (p : Pair) → p ≡ pair_of l k o → Low p
low l h k o p e = rw e (pair-low l h k o)

first-is : (l : List ℕ) (k : ℕ) (t : Taps) (f : Strength) (m : Part) (p q : Pair) → m ≡ first_of p q (get_or l k 0) f → p ≡ pair_of l k t.p0 → q ≡ pair_of l k t.p1 → m ≡ first_at l k t f
unfolding first_at
first-is l k t f m p q e a b = e ∙ rw (a, b)

pub overflow_add-i : goal.overflow_add-i
overflow_add-i c = omega (arith, c.requires.0.p0.high)

pub offset_bounds-src-i : goal.offset_bounds-src-i
offset_bounds-src-i c = omega (arith, c.requires.0.p0.high)

pub bounds-src-i : goal.bounds-src-i
bounds-src-i c = omega (arith, c.requires.0.p0.high)

pub load-requires : goal.load-requires
load-requires c = (reached-all c.requires.0 c.args.j c.requires.1).p0

pub load-requires-2 : goal.load-requires-2
load-requires-2 c = (reached-all c.requires.0 c.args.j c.requires.1).p1

pub first-m-requires : goal.first-m-requires
first-m-requires c = (low _ c.requires.2 _ _ _ c.load.ensures, low _ c.requires.2 _ _ _ c.load-2.ensures, below _ c.requires.2 _, c.requires.3)

pub load-q0-requires : goal.load-q0-requires
load-q0-requires c = (reached-all c.requires.0 c.args.j c.requires.1).q0

pub load-q1-requires : goal.load-q1-requires
load-q1-requires c = (reached-all c.requires.0 c.args.j c.requires.1).q1

pub load-r0-requires : goal.load-r0-requires
load-r0-requires c = (reached-all c.requires.0 c.args.j c.requires.1).r0

pub load-r1-requires : goal.load-r1-requires
load-r1-requires c = (reached-all c.requires.0 c.args.j c.requires.1).r1

pub last-requires : goal.last-requires
last-requires c =
    let l = c.requires.2 in
    (rw (first-is _ _ c.args.t _ _ _ _ c.first-m.ensures c.load.ensures c.load-2.ensures) (first-bounded _ l _ _ _ c.requires.3), low _ l _ _ _ c.load-q0.ensures, low _ l _ _ _ c.load-q1.ensures, low _ l _ _ _ c.load-r0.ensures, low _ l _ _ _ c.load-r1.ensures, below _ l _, c.requires.4)

pub returns : goal.returns
unfolding first_at
returns c =
    c.last.ensures
    ∙ rw (first-is _ _ c.args.t _ _ _ _ c.first-m.ensures c.load.ensures c.load-2.ensures, c.load-q0.ensures, c.load-q1.ensures, c.load-r0.ensures, c.load-r1.ensures) (both-plain _ c.requires.2 _ c.args.t c.args.f c.args.g)
