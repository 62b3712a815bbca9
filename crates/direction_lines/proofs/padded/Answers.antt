-- `direction_lines::padded` meets its contract.
use mathlib.Core.Path.{◌≡◌, refl, sym}
use Prim.Native.Nat.{◌+◌, ◌*◌, ◌/◌, ◌%◌}
use native.Mathlib.Omega.{arith}
use lib.ListN.{length-set}
use mir.Syntax.{w16}
use mir.Val.{to_z, of_z}
use Rattle.arith_sample.specs.Upto.{upto-none, upto-more, upto-at, upto_all}
use Rattle.arith_sample.proofs.Joins.{back_is}
use Rattle.direction_lines.specs.Lines.{pad_at, padded_of}
use Rattle.direction_lines.specs.LinesLaws.{pad-size}
use Rattle.direction_lines.proofs.padded.Goals as goal
use Rattle.direction_lines.proofs.padded.Goals.{After-pad}

-- what an iteration stores
stored : (c : After-pad) → let b = c.args.b.now in let i = c.loop-i.i in let j = c.loop-j.j in to_z w16 (of_z w16 c.pad.result) ≡ pad_at b ((i * 24 + j) / 24) ((i * 24 + j) % 24)
stored c =
    let i = c.loop-i.i in
    let j = c.loop-j.j in
    let d : (i * 24 + j) / 24 ≡ i = omega arith in
    let m : (i * 24 + j) % 24 ≡ j = omega arith in
    rw (d, m) (back_is {m = 128} (record { is = c.pad.ensures; small = pad-size c.args.b.now i j c.requires }) (omega arith))

pub loop-i-init : goal.loop-i-init
loop-i-init c = (sym (upto-none _), refl, omega arith)

pub loop-j-init : goal.loop-j-init
loop-j-init c = (upto-at _ _ _ _ (omega arith) c.loop-i.invariant.0, c.loop-i.invariant.1, omega arith)

pub pad-requires : goal.pad-requires
pad-requires c = (c.loop-i-test.true, c.loop-j-test.true, c.requires)

pub loop-j-preserved : goal.loop-j-preserved
loop-j-preserved c = (upto-at _ _ _ _ (omega arith) (upto-more _ _ _ _ c.loop-j.invariant.0 (omega arith) (stored c)), simp length-set c.loop-j.invariant.1, omega arith)

pub loop-i-preserved : goal.loop-i-preserved
loop-i-preserved c = (upto-at _ _ _ _ (omega arith) c.loop-j.invariant.0, c.loop-j.invariant.1, omega arith)

pub returns : goal.returns
returns c = unfold padded_of in upto_all _ _ 192 _ c.loop-i.invariant.0 c.loop-i.invariant.1 (omega arith)
