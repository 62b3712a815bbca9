-- `arith_trials::trial_pair` meets its contract.
use mathlib.Core.Path.{◌≡◌, ◌∙◌}
use mathlib.Core.Bool.{cond}
use Prim.Native.Nat.{◌%◌}
use native.Mathlib.Omega.{arith}
use borrow.Author.Tests.{ne_eqb}
use lib.Dec.{eqb}
use Rattle.arith_trials.specs.TrialLaws.{pair_is}
use Rattle.arith_trials.proofs.trial_pair.Goals as goal
use Rattle.arith_trials.proofs.trial_pair.Goals.{Joined-t-rem4, in-3, in_default}

-- where the two branches join
primary-at : (c : Joined-t-rem4) → let t = c.args.t in c.match-t-rem4.primary ≡ cond (eqb (t % 4) 3) 4 (t % 4)
primary-at c = elim c.match-t-rem4.branch [ in-3 w ↦ w.primary-is ∙ rw w.in-3.is | in_default w ↦ w.primary-is ∙ rw (ne_eqb (c.args.t % 4) 3 (λ e. omega arith)) ]

pub returns : goal.returns
returns c = pair_is _ _ c.requires (primary-at c)
