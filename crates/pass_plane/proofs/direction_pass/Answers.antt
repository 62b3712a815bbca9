-- `pass_plane::direction_pass` meets its contract.
use mathlib.Core.Path.{◌≡◌, refl, ap, ◌∙◌}
use Prim.Native.Nat.{ℕ, ◌*◌, ◌/◌}
use native.Mathlib.Omega.{arith}
use Rattle.cdef_spec.specs.Lent.{plane_in_full}
use Rattle.pass_one.specs.PassLaws.{pass_same, filled_none, filled_at, filled}
use Rattle.pass_plane.proofs.direction_pass.Goals as goal

pub loop-by-init : goal.loop-by-init
loop-by-init c = unfold plane_in_full in (filled_at _ _ 0 _ _ _ (omega arith) (filled_none _ _ _ _), refl, refl, omega arith)

pub row-requires : goal.row-requires
row-requires c = unfold plane_in_full in let p = c.loop-by in
    record {
      pass_in = (pass_same (record { dirs-size = c.requires.one_entry_per_block.0; vars-size = c.requires.one_entry_per_block.1; depth_low = c.requires.depth_8_to_12.0; depth-high = c.requires.depth_8_to_12.1; low = c.requires.samples_fit }) p.invariant.1 p.invariant.2, c.loop-by-test.true);
      filled = p.invariant.0;
    }

pub loop-by-preserved : goal.loop-by-preserved
loop-by-preserved c = unfold plane_in_full in let r = c.row in
    let p = c.loop-by in
    (r.ensures, r.auto.dirs ∙ p.invariant.1, r.auto.vars ∙ p.invariant.2, omega arith)

pub returns : goal.returns
returns c = unfold plane_in_full in let a = c.args in
    let p = c.loop-by in
    let e : p.by ≡ a.plane.now.height / 8 = omega arith in
    let g : p.by * (a.plane.now.width / 8) ≡ a.plane.now.height / 8 * (a.plane.now.width / 8) = ap (λ (n : ℕ). n * (a.plane.now.width / 8)) e in
    record { dirs_after = filled _ _ _ _ p.invariant.0.dirs-are (p.invariant.1 ∙ c.requires.one_entry_per_block.0) g; vars_after = filled _ _ _ _ p.invariant.0.vars-are (p.invariant.2 ∙ c.requires.one_entry_per_block.1) g }
