-- `direction_eight::best::best` meets its contract.
use mathlib.Core.Path.{◌≡◌, refl, ◌∙◌}
use native.Mathlib.Omega.{arith}
use Rattle.arith_sample.specs.Upto.{upto}
use Rattle.direction_best.specs.Best.{best_to}
use Rattle.direction_eight.specs.Best.{bests_of}
use Rattle.direction_eight.proofs.best.best.Goals as goal

pub loop-d-init : goal.loop-d-init
loop-d-init c = ((unfold bests_of best_to upto in refl), omega arith)

pub better-b-requires : goal.better-b-requires
better-b-requires c = (c.loop-d-test.true, c.loop-d.invariant.0)

pub loop-d-preserved : goal.loop-d-preserved
loop-d-preserved c = (c.better-b.ensures, omega arith)

pub returns : goal.returns
returns c = let e : c.loop-d.d ≡ 8 = omega arith in c.loop-d.invariant.0 ∙ rw e
