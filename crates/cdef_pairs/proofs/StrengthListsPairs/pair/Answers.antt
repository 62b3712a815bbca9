-- `cdef_pairs::StrengthLists::pair` meets its contract.
use Rattle.std.proofs.Common.{◌≡◌, sym, arith, ◌<◌, length, get_or, rules}
use Rattle.cdef_spec.proofs.OutcomeLaws.{length_pairs, pair_of}
use Rattle.cdef_pairs.proofs.StrengthListsPairs.pair.Goals as goal

pub bounds-self-u : goal.bounds-self-u
bounds-self-u c = omega (arith, c.requires, length_pairs c.args.self.now.pris.now c.args.self.now.secs.now)

pub returns : goal.returns
returns c =
    let within : c.args.u < length c.args.self.now.pris.now = omega (arith, c.requires, length_pairs c.args.self.now.pris.now c.args.self.now.secs.now) in
    let secondary : c.unwrap_or.result ≡ get_or c.args.self.now.secs.now c.args.u 0 = search rules in
    rw secondary (sym (pair_of c.args.self.now.pris.now c.args.self.now.secs.now c.args.u within))
