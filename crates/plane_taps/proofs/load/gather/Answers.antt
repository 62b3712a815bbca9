-- `plane_taps::load::gather` meets its contract.
use Rattle.std.proofs.Common.{◌≡◌, ℕ, ◌+◌, ◌*◌, ◌/◌, ◌<◌, length, get_or, sym, refl, ap, arith, length-set}
use Rattle.arith_sample.specs.Upto.{upto-none, upto-more, upto-at, upto_all}
use Rattle.plane_taps.specs.Runs.{run_by}
use Rattle.plane_taps.specs.RunLaws.{row-size, all-rows, place}
use Rattle.plane_taps.proofs.load.gather.Goals as goal

pub loop-i-init : goal.loop-i-init
loop-i-init g c = (upto-at _ _ 0 _ (omega arith) (sym (upto-none _)), refl, omega arith)

pub loop-j-preserved : goal.loop-j-preserved
loop-j-preserved g c = let p = c.loop-j in
    let i = c.loop-i.i in
    let fits : i * g.row.N + p.j < length p.v = omega (arith, row-size c.requires.0 i (omega arith), p.invariant.1) in
    let e = sym (ap (λ (n : ℕ). get_or c.args.src.now n 0) (place c.requires.0 c.args.w c.args.k i p.j (omega arith))) in
    (upto-at _ _ _ _ (omega arith) (upto-more _ _ _ _ p.invariant.0 fits e), simp length-set p.invariant.1, omega arith)

pub returns : goal.returns
unfolding run_by
returns g c = let p = c.loop-i in
    let full : p.i ≡ 16 / g.row.N = omega arith in
    let all : p.i * g.row.N ≡ 16 = rw full (all-rows c.requires.0) in
    upto_all _ _ 16 _ p.invariant.0 p.invariant.1 all
