-- `plane_taps::plain::last` meets its contract.
use Rattle.std.proofs.Common.{◌≡◌, ℕ, ℤ, sym, refl, ◌∙◌, arith}
use Rattle.arith_sample.specs.SampleLaws.{finish-on}
use Rattle.arith_sample.proofs.Joins.{Is, add_ok, add_is, back_is}
use Rattle.filter_limits.specs.declared.Pair.{Pair}
use Rattle.filter_rows.specs.declared.Strength.{Strength}
use Rattle.filter_rows.specs.Sums.{InRange}
use Rattle.filter_rows.proofs.Bounds.{small-back}
use Rattle.plane_taps.specs.declared.plain.Part.{Part}
use Rattle.plane_taps.specs.Plain.{Bounded, sec_plain, limit_two, last_of}
use Rattle.plane_taps.specs.PlainLaws.{low_held, size-sec}
use Rattle.plane_taps.proofs.plain.last.Goals as goal

one : {m : Part} → Bounded m → Is m.sum m.sum 3840
one h = record { is = refl; small = h.sum }

other : (q0 q1 r0 r1 : Pair) (c : ℕ) {g : Strength} {x : ℤ} → InRange g → x ≡ sec_plain q0 q1 r0 r1 c g → Is x (sec_plain q0 q1 r0 r1 c g) 7680
other q0 q1 r0 r1 c {g} h e = record { is = e; small = size-sec c g h q0 q1 r0 r1 }

pub sec_sum-requires : goal.sec_sum-requires
sec_sum-requires c = (low_held c.requires.1, low_held c.requires.2, low_held c.requires.3, low_held c.requires.4, omega (arith, c.requires.5), c.requires.6)

pub add-sum-requires : goal.add-sum-requires
add-sum-requires c = add_ok (one c.requires.0) (other _ _ _ _ _ c.requires.6 c.sec_sum.ensures) (omega arith)

pub clipped-requires : goal.clipped-requires
clipped-requires c = (
  omega (arith, c.requires.5),
  small-back (add_is (one c.requires.0) (other _ _ _ _ _ c.requires.6 c.sec_sum.ensures) (omega arith) c.add-sum.ensures) (omega arith) (omega arith),
  omega (arith, c.min-lo.ensures, c.requires.0.lo),
  omega (arith, c.max-hi.ensures, c.requires.0.hi, c.max.ensures, c.limit_two-3.ensures.1, c.limit_two-4.ensures.1),
)

pub returns : goal.returns
unfolding last_of limit_two
returns c = c.clipped.ensures
    ∙ rw (
      back_is (add_is (one c.requires.0) (other _ _ _ _ _ c.requires.6 c.sec_sum.ensures) (omega arith) c.add-sum.ensures) (omega arith),
      c.min-lo.ensures,
      c.min.ensures,
      c.limit_two.ensures.0,
      c.limit_two-2.ensures.0,
      c.max-hi.ensures,
      c.max.ensures,
      c.limit_two-3.ensures.0,
      c.limit_two-4.ensures.0,
    )
    (sym (finish-on _ _ _ _ (λ e. omega (arith, c.requires.5, e))))
