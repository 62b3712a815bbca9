-- Where the checks of a call on single numbers pass, its numbers are in range.
use Rattle.std.specs.Prelude.{◌≡◌, ℕ, ◌≤◌, leb, ℤ, nat_abs}
use Rattle.std.proofs.Common.{arith, leb-true}
use Rattle.cdef_spec.specs.declared.SignalledDamping.{SignalledDamping}
use Rattle.cdef_spec.specs.declared.WorkingDamping.{WorkingDamping}
use Rattle.cdef_spec.specs.Questions.{strength_taken, variance_taken, working_taken, signalled_taken}
use Rattle.cdef_spec.specs.QuestionLaws.{first-yes, depth-high}
use Rattle.cdef_spec.specs.BlockCalls.{constrain_no, adjust_no, working_damping_no}
use Rattle.cdef_spec.specs.WordsLaws.{and_both}
use Rattle.check_values.specs.YesLaws.{strength-le, working-le, difference-le}

pub constrain-yes : (z : ℤ) (s : ℕ) (d : WorkingDamping) → constrain_no z s d ≡ 0 → (nat_abs z ≤ 4095) × (s ≤ 240) × (d.0 ≤ 31)
unfolding constrain_no
constrain-yes z s d e =
    let a = first-yes _ _ (λ e. omega arith) e in
    let b = first-yes _ _ (λ e. omega arith) a.1 in
    let k = and_both (strength_taken s) (working_taken d) a.0 in
    (difference-le z b.0, strength-le s k.0, working-le d k.1)

pub adjust-yes : (s v : ℕ) → adjust_no s v ≡ 0 → s ≤ 240
unfolding adjust_no
adjust-yes s v e = let a = first-yes _ _ (λ e. omega arith) e in strength-le s (and_both (strength_taken s) (variance_taken v) a.0).0

-- where the working damping of a plane is computed, the depth is 8 to 12 and the signalled damping 3 to 6
pub working-damping-yes : (d : SignalledDamping) (depth : ℕ) → working_damping_no d depth ≡ 0 → (3 ≤ d.0) × (d.0 ≤ 6) × (8 ≤ depth) × (depth ≤ 12)
unfolding working_damping_no signalled_taken
working-damping-yes d depth e =
    let a = first-yes _ _ (λ e. omega arith) e in
    let b = first-yes _ _ (λ e. omega arith) a.1 in
    let h = depth-high depth a.0 in
    let k = and_both (leb 3 d.0) (leb d.0 6) b.0 in
    (leb-true 3 d.0 k.0, leb-true d.0 6 k.1, h.0, h.1)
