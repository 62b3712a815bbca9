-- `direction_lines::turned` meets its contract.
use mathlib.Core.Path.{◌≡◌, refl, sym}
use Prim.Native.Nat.{◌+◌, ◌*◌, ◌/◌, ◌%◌}
use native.Mathlib.Omega.{arith}
use lib.ListN.{get_or, length-set}
use lib.IntN.{pos}
use mir.Syntax.{w16}
use mir.Val.{to_z, of_z}
use Rattle.arith_sample.specs.Upto.{upto-none, upto-more, upto-at, upto_all}
use Rattle.arith_sample.proofs.Sums16.{back}
use Rattle.direction_lines.specs.Lines.{turned_of}
use Rattle.direction_lines.proofs.turned.Goals as goal
use Rattle.direction_lines.proofs.turned.Goals.{After-t-1}

-- what an iteration stores
stored : (c : After-t-1) → let b = c.args.b.now in let i = c.loop-i.i in let j = c.loop-j.j in to_z w16 (of_z w16 (get_or b (j * 8 + i) (pos 0))) ≡ get_or b ((i * 8 + j) % 8 * 8 + (i * 8 + j) / 8) (pos 0)
stored c =
    let i = c.loop-i.i in
    let j = c.loop-j.j in
    let d : (i * 8 + j) / 8 ≡ i = omega arith in
    let m : (i * 8 + j) % 8 ≡ j = omega arith in
    rw (d, m) (back _ (omega (arith, c.requires.all (j * 8 + i))))

pub loop-i-init : goal.loop-i-init
loop-i-init c = (sym (upto-none _), refl, omega arith)

pub loop-j-init : goal.loop-j-init
loop-j-init c = (upto-at _ _ _ _ (omega arith) c.loop-i.invariant.0, c.loop-i.invariant.1, omega arith)

pub loop-j-preserved : goal.loop-j-preserved
loop-j-preserved c = (upto-at _ _ _ _ (omega arith) (upto-more _ _ _ _ c.loop-j.invariant.0 (omega arith) (stored c)), simp length-set c.loop-j.invariant.1, omega arith)

pub loop-i-preserved : goal.loop-i-preserved
loop-i-preserved c = (upto-at _ _ _ _ (omega arith) c.loop-j.invariant.0, c.loop-j.invariant.1, omega arith)

pub returns : goal.returns
returns c = unfold turned_of in upto_all _ _ 64 _ c.loop-i.invariant.0 c.loop-i.invariant.1 (omega arith)
