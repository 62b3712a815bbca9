-- `arith_trials::trial_of` meets its contract.
use native.Mathlib.Omega.{arith}
use Rattle.arith_trials.specs.TrialLaws.{number-none, number-low, number-four, number-other}
use Rattle.arith_trials.proofs.trial_of.Goals as goal

pub returns-in-0-to-2-eq4-clause-number : goal.returns-in-0-to-2-eq4-clause-number
returns-in-0-to-2-eq4-clause-number c = number-four _ _ (omega arith) c.in-0-to-2-eq4.is-1

pub returns-in-0-to-2-0-to-2-clause-number : goal.returns-in-0-to-2-0-to-2-clause-number
returns-in-0-to-2-0-to-2-clause-number c = number-low _ _ (omega arith) (omega arith)

pub returns-in_default-clause-number : goal.returns-in_default-clause-number
returns-in_default-clause-number c = number-other _ _ (omega arith) (omega arith) c.in_default.is-1.1

pub returns-in_default-2-clause-number : goal.returns-in_default-2-clause-number
returns-in_default-2-clause-number c = number-none _ _ (omega arith)
