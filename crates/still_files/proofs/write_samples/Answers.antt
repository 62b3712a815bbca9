-- `still_files::write_samples` meets its contract.
use Rattle.std.proofs.Common.{rules, ◌≡◌, ◌*◌, ◌≤◌, length, arith}
use Rattle.still_pgm.specs.SizesLaws.{taken, step_range, samples-room, bytes-room}
use Rattle.still_files.proofs.write_samples.Goals as goal

pub padded_side-pitch-requires : goal.padded_side-pitch-requires
padded_side-pitch-requires g c = (taken _ _ c.requires).width-high

pub overflow_mul-bytes : goal.overflow_mul-bytes
overflow_mul-bytes g c = let h = c.args.header in omega (arith, (samples-room h.width h.height h.maximum c.requires).0)

pub overflow_mul-bytes-2 : goal.overflow_mul-bytes-2
overflow_mul-bytes-2 g c =
    let h = c.args.header in
    let room : h.width * h.height * c.step_of-step.result ≤ 1572864 = rw c.step_of-step.ensures (bytes-room h.width h.height h.maximum c.requires) in
    omega arith

pub encode_rows-requires-clause-room : goal.encode_rows-requires-clause-room
encode_rows-requires-clause-room g c =
    let h = c.args.header in
    let made : length c.as_mut_slice.result.now ≡ h.width * h.height * c.step_of-step.result = search rules in
    rw (made, c.step_of-step.ensures) (bytes-room h.width h.height h.maximum c.requires)

pub encode_rows-requires-clause-sides : goal.encode_rows-requires-clause-sides
encode_rows-requires-clause-sides g c = let t = taken _ _ c.requires in (t.width_low, omega (arith, c.padded_side-pitch.ensures, t.width-high))

pub encode_rows-requires-clause-bytes : goal.encode_rows-requires-clause-bytes
encode_rows-requires-clause-bytes g c = let s = step_range c.args.header.maximum in (omega (arith, c.step_of-step.ensures, s.0), omega (arith, c.step_of-step.ensures, s.1))
