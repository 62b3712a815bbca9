-- `trial_any::put_block` meets its contract.
use Rattle.std.proofs.Common.{arith, ℕ, ◌+◌, ◌*◌, ◌-◌, length}
use Rattle.std.proofs.lemmas.List.{places}
use Rattle.trial_runs.specs.RunLaws.{run-whole}
use Rattle.trial_any.proofs.put_block.Goals as goal

pub returns : goal.returns
returns c =
    let a = c.args in
    let at : ℕ = a.t * 64 in
    let n : ℕ = length a.v.now in
    run-whole a.out.now a.v.now a.t 0 c.copy_from_slice.new.self at (at + n - at) n (omega arith) (omega arith) (omega arith) (grind (arith, places, c.copy_from_slice.ensures.len, c.requires)) (λ j h. rw c.copy_from_slice.ensures.after)
