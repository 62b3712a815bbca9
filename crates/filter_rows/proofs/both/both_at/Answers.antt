-- `filter_rows::both::both_at` meets its contract.
use Rattle.std.proofs.Common.{◌≡◌, ℕ, ℤ, ◌∙◌, arith}
use Rattle.filter_limits.specs.declared.Pairs.{Pairs}
use Rattle.filter_rows.specs.declared.Strength.{Strength}
use Rattle.filter_rows.specs.Sums.{InRange}
use Rattle.filter_rows.specs.Pairs.{pri_sum, sec_sum}
use Rattle.filter_rows.specs.PairsLaws.{held-pairs, both_is}
use Rattle.filter_rows.proofs.Bounds.{size-pri-sum, size-sec-sum, small-back}
use Rattle.arith_sample.proofs.Joins.{Is, add_ok, add_is, back_is}
use Rattle.filter_rows.proofs.both.both_at.Goals as goal

one : (e : Pairs) (c : ℕ) {f : Strength} {x : ℤ} → InRange f → x ≡ pri_sum e c f → Is x (pri_sum e c f) 3840
one e c {f} r h = record { is = h; small = size-pri-sum e c f r }

other : (e : Pairs) (c : ℕ) {f : Strength} {x : ℤ} → InRange f → x ≡ sec_sum e c f → Is x (sec_sum e c f) 7680
other e c {f} r h = record { is = h; small = size-sec-sum e c f r }

pub pri_sum-requires : goal.pri_sum-requires
pri_sum-requires c = (rw c.load_pairs-e.ensures (held-pairs _ _ _ c.requires.2), c.requires.2.all c.args.k, c.requires.4)

pub sec_sum-requires : goal.sec_sum-requires
sec_sum-requires c = (rw c.load_pairs-e.ensures (held-pairs _ _ _ c.requires.2), c.requires.2.all c.args.k, c.requires.5)

pub add-sum-requires : goal.add-sum-requires
add-sum-requires c = add_ok (one _ _ c.requires.4 c.pri_sum.ensures) (other _ _ c.requires.5 c.sec_sum.ensures) (omega arith)

pub lowest-requires : goal.lowest-requires
lowest-requires c = (rw c.load_pairs-e.ensures (held-pairs _ _ _ c.requires.2), c.requires.2.all c.args.k)

pub highest-requires : goal.highest-requires
highest-requires c = (rw c.load_pairs-e.ensures (held-pairs _ _ _ c.requires.2), c.requires.2.all c.args.k)

pub finish-requires : goal.finish-requires
finish-requires c = (c.requires.2.all c.args.k, small-back (add_is (one _ _ c.requires.4 c.pri_sum.ensures) (other _ _ c.requires.5 c.sec_sum.ensures) (omega arith) c.add-sum.ensures) (omega arith) (omega arith), c.lowest.ensures.1, c.highest.ensures.1)

pub returns : goal.returns
returns c = let a = c.args in
    c.finish.ensures
    ∙ rw (back_is (add_is (one _ _ c.requires.4 c.pri_sum.ensures) (other _ _ c.requires.5 c.sec_sum.ensures) (omega arith) c.add-sum.ensures) (omega arith), c.lowest.ensures.0, c.highest.ensures.0, c.load_pairs-e.ensures) (both_is a.w.now a.k a.t c.requires.2 a.f a.g)
