-- `plane_bytes::eights::both` meets its contract.
use Rattle.std.proofs.Common.{arith}
use Rattle.plane_bytes.specs.EightLaws.{mask_is, both-eight}
use Rattle.plane_bytes.proofs.eights.both.Goals as goal

pub overflow_cast-f : goal.overflow_cast-f
overflow_cast-f c = record { fits = omega (arith, c.requires.3.strong.pri) }

pub odd-requires : goal.odd-requires
odd-requires c = let e = c.requires.3.strong in (e.least, e.most)

pub overflow_cast-g : goal.overflow_cast-g
overflow_cast-g c = record { fits = omega (arith, c.requires.3.strong.sec) }

pub both-requires : goal.both-requires
both-requires c = let e = c.requires.3.strong in (e.pri, e.pri-shift, mask_is e c.odd.ensures, e.sec, e.sec-shift)

pub returns : goal.returns
returns c = let a = c.args in
    let e = c.requires.3 in
    rw (e.pri, e.sec) at (both-eight a.src.now c.requires.1 a.w a.k a.t a.f.s a.f.sh a.f.w0 a.g.s a.g.sh e.strong c.run-c.ensures c.on-a0.ensures c.back-b0.ensures c.on-a1.ensures c.back-b1.ensures c.on-a2.ensures c.back-b2.ensures
    c.on-a3.ensures c.back-b3.ensures c.on-a4.ensures c.back-b4.ensures c.on-a5.ensures c.back-b5.ensures c.odd.ensures c.both.ensures)
