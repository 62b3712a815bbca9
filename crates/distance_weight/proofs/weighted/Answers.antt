-- `distance_weight::weighted` meets its contract.
use mathlib.Core.Path.{◌∙◌}
use native.Mathlib.Omega.{arith}
use Rattle.distance_weight.specs.WeighingLaws.{times-weight}
use Rattle.distance_weight.proofs.weighted.Goals as goal

pub weight-w-requires : goal.weight-w-requires
weight-w-requires c = (c.requires.0, c.requires.1, c.requires.2, c.requires.3)

pub times-requires : goal.times-requires
times-requires c = let p = c.before.requires in
    record { constants = c.before.args.c; depth = p.0; first = c.before.args.a; second = c.before.args.b; deep = p.1; first-low = p.2; second-low = p.3; error-low = omega (arith, p.4); is = c.weight-w.ensures }

pub returns : goal.returns
returns c = c.times.ensures ∙ times-weight _ _ _ _ _ c.before.weight-w.ensures
