-- `trial_runs::put_run` meets its contract.
use Rattle.std.proofs.Common.{arith, ℕ, ◌+◌, ◌*◌, ◌-◌}
use Rattle.std.proofs.lemmas.List.{places}
use Rattle.trial_runs.specs.RunLaws.{run-whole}
use Rattle.trial_runs.proofs.put_run.Goals as goal

pub returns : goal.returns
returns c =
    let a = c.args in
    let at : ℕ = a.t * 64 + a.k in
    run-whole a.out.now a.v a.t a.k c.copy_from_slice.new.self at (at + 16 - at) 16 (omega arith) (omega arith) (omega arith) (grind (arith, places, c.copy_from_slice.ensures.len, c.requires)) (λ j h. rw c.copy_from_slice.ensures.after)
