-- `plane_fours::pri` meets its contract.
use Rattle.plane_fours.specs.RunLaws.{centre-low, pairs-low}
use Rattle.plane_fours.specs.FourLaws.{pri-four}
use Rattle.plane_fours.proofs.pri.Goals as goal

pub pri-requires : goal.pri-requires
pri-requires c = let a = c.args in
    let low = c.requires.1 in
    (rw c.gather-c.ensures (centre-low a.src.now low a.w a.k), pairs-low a.src.now low a.w a.k a.t.p0 a.t.p1 c.ahead-a0.ensures c.behind-b0.ensures c.ahead-a1.ensures c.behind-b1.ensures, c.requires.3)

pub returns : goal.returns
returns c = let a = c.args in
    pri-four a.src.now c.requires.1 a.w a.k a.t c.gather-c.ensures a.f c.ahead-a0.ensures c.behind-b0.ensures c.ahead-a1.ensures c.behind-b1.ensures c.pri.ensures
