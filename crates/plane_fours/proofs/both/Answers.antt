-- `plane_fours::both` meets its contract.
use Rattle.plane_fours.specs.RunLaws.{centre-low, pairs-low}
use Rattle.plane_fours.specs.FourLaws.{both-four}
use Rattle.plane_fours.proofs.both.Goals as goal

pub both-requires : goal.both-requires
both-requires c = let a = c.args in
    let low = c.requires.1 in (
      rw c.gather-c.ensures (centre-low a.src.now low a.w a.k),
      pairs-low a.src.now low a.w a.k a.t.p0 a.t.p1 c.ahead-a0.ensures c.behind-b0.ensures c.ahead-a1.ensures c.behind-b1.ensures,
      pairs-low a.src.now low a.w a.k a.t.q0 a.t.q1 c.ahead-a2.ensures c.behind-b2.ensures c.ahead-a3.ensures c.behind-b3.ensures,
      pairs-low a.src.now low a.w a.k a.t.r0 a.t.r1 c.ahead-a4.ensures c.behind-b4.ensures c.ahead-a5.ensures c.behind-b5.ensures,
      c.requires.3,
      c.requires.4,
    )

pub returns : goal.returns
returns c = let a = c.args in
    both-four a.src.now c.requires.1 a.w a.k a.t c.gather-c.ensures a.f a.g c.ahead-a0.ensures c.behind-b0.ensures c.ahead-a1.ensures c.behind-b1.ensures c.ahead-a2.ensures c.behind-b2.ensures c.ahead-a3.ensures c.behind-b3.ensures c.ahead-a4.ensures c.behind-b4.ensures c.ahead-a5.ensures c.behind-b5.ensures c.both.ensures
