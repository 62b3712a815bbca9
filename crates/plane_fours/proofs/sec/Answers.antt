-- `plane_fours::sec` meets its contract.
use Rattle.plane_fours.specs.RunLaws.{centre-low, pairs-low}
use Rattle.plane_fours.specs.FourLaws.{sec-four}
use Rattle.plane_fours.proofs.sec.Goals as goal

pub sec-requires : goal.sec-requires
sec-requires c = let a = c.args in
    let low = c.requires.1 in (
      rw c.gather-c.ensures (centre-low a.src.now low a.w a.k),
      pairs-low a.src.now low a.w a.k a.t.q0 a.t.q1 c.ahead-a0.ensures c.behind-b0.ensures c.ahead-a1.ensures c.behind-b1.ensures,
      pairs-low a.src.now low a.w a.k a.t.r0 a.t.r1 c.ahead-a2.ensures c.behind-b2.ensures c.ahead-a3.ensures c.behind-b3.ensures,
      c.requires.3,
    )

pub returns : goal.returns
returns c = let a = c.args in
    sec-four a.src.now c.requires.1 a.w a.k a.t c.gather-c.ensures a.f c.ahead-a0.ensures c.behind-b0.ensures c.ahead-a1.ensures c.behind-b1.ensures c.ahead-a2.ensures c.behind-b2.ensures c.ahead-a3.ensures c.behind-b3.ensures c.sec.ensures
