-- `still_pgm::format::Format::read` meets its contract.
use Rattle.std.proofs.lemmas.Result.{err_from_is_err_and}
use Rattle.still_pgm.specs.Faults.{fault_of}
use Rattle.still_pgm.proofs.format.Format.read.Goals as goal

pub returns-in_err-format : goal.returns-in_err-format
unfolding fault_of
returns-in_err-format c =
    let p = err_from_is_err_and c.from_residual.result c.from_residual.ensures.1 in
    rw (p.1, p.2, ← c.in-Some.ensures) c.in_err-format.ensures

pub returns : goal.returns
unfolding fault_of
returns c = (rw c.in_ok-format.ensures.0 c.in-Some.ensures, rw (← c.in-Some.ensures) c.in_ok-format.ensures.1)
