-- `still_pgm::format::Format::bytes` meets its contract.
use Rattle.std.proofs.Common.{◌*◌, ◌≤◌, arith}
use Rattle.still_pgm.specs.SizesLaws.{samples-room, bytes-room}
use Rattle.still_pgm.proofs.format.Format.bytes.Goals as goal

pub overflow_mul-result : goal.overflow_mul-result
overflow_mul-result c = let h = c.args.self.now.header in omega (arith, (samples-room h.width h.height h.maximum c.args.self.now.taken).0)

pub overflow_mul-result-2 : goal.overflow_mul-result-2
overflow_mul-result-2 c =
    let h = c.args.self.now.header in
    let room : h.width * h.height * c.step.result ≤ 1572864 = rw c.step.ensures (bytes-room h.width h.height h.maximum c.args.self.now.taken) in
    omega arith

pub returns-clause-most : goal.returns-clause-most
returns-clause-most c = let h = c.args.self.now.header in rw c.step.ensures (bytes-room h.width h.height h.maximum c.args.self.now.taken)
