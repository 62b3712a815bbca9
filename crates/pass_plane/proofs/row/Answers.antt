-- `pass_plane::row` meets its contract.
use mathlib.Core.Path.{◌≡◌, refl, ◌∙◌}
use Prim.Native.Nat.{◌/◌}
use native.Mathlib.Omega.{arith}
use Rattle.cdef_spec.specs.Lent.{plane_in_full}
use Rattle.pass_one.specs.PassLaws.{pass_same, filled_at}
use Rattle.pass_plane.proofs.row.Goals as goal

pub loop-u-init : goal.loop-u-init
loop-u-init c = unfold plane_in_full in (filled_at _ _ _ _ _ _ (omega arith) c.requires.filled, refl, refl, omega arith)

pub overflow_mul-u : goal.overflow_mul-u
overflow_mul-u c = omega (arith, c.args.plane.now.sides)

pub eight_blocks-requires : goal.eight_blocks-requires
eight_blocks-requires c = unfold plane_in_full in let p = c.loop-u in
    record {
      pass_in = (pass_same c.requires.pass_in.0 p.invariant.1 p.invariant.2, omega arith, c.requires.pass_in.1);
      filled = p.invariant.0;
    }

pub loop-u-preserved : goal.loop-u-preserved
loop-u-preserved c = unfold plane_in_full in let b = c.eight_blocks in
    let p = c.loop-u in
    (filled_at _ _ _ _ _ _ (omega arith) b.ensures, b.auto.dirs ∙ p.invariant.1, b.auto.vars ∙ p.invariant.2, omega arith)

pub loop-bx-init : goal.loop-bx-init
loop-bx-init c = unfold plane_in_full in let p = c.loop-u in
    let e : p.u ≡ c.args.plane.now.width / 64 = omega arith in
    (filled_at _ _ _ _ _ _ (omega arith) p.invariant.0, refl, refl, omega arith)

pub one_block-requires : goal.one_block-requires
one_block-requires c = unfold plane_in_full in let p = c.loop-u in
    let r = c.loop-bx in
    record { pass_in = (pass_same c.requires.pass_in.0 (r.invariant.1 ∙ p.invariant.1) (r.invariant.2 ∙ p.invariant.2), omega arith, c.requires.pass_in.1); filled = r.invariant.0 }

pub loop-bx-preserved : goal.loop-bx-preserved
loop-bx-preserved c = unfold plane_in_full in let b = c.one_block in
    let r = c.loop-bx in
    (b.ensures, b.auto.dirs ∙ r.invariant.1, b.auto.vars ∙ r.invariant.2, omega arith)

pub returns : goal.returns
returns c = unfold plane_in_full in let r = c.loop-bx in
    let p = c.loop-u in
    let e : r.bx ≡ c.args.plane.now.width / 8 = omega arith in
    filled_at _ _ _ _ _ _ (omega arith) r.invariant.0
