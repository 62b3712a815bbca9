-- `trial_strengths::strengths` meets its contract.
use Prim.Native.Nat.{◌-◌, ◌*◌, ◌%◌, ◌^◌}
use native.Mathlib.Omega.{arith}
use Rattle.arith_strength.specs.StrengthLaws.{limit, limit-low}
use Rattle.trial_strengths.specs.StrengthLaws.{adjusted-low, strengths-is}
use Rattle.trial_strengths.proofs.strengths.Goals as goal

pub adjusted-requires : goal.adjusted-requires
adjusted-requires c = let d = c.args.q.depth in omega (arith, limit 1 d (omega arith) c.args.q.deep.1, limit-low 1 d (omega arith) c.args.q.deep.1)

pub adjusted-requires-2 : goal.adjusted-requires-2
adjusted-requires-2 c = let d = c.args.q.depth in omega (arith, limit 2 d (omega arith) c.args.q.deep.1, limit-low 2 d (omega arith) c.args.q.deep.1)

pub adjusted-requires-3 : goal.adjusted-requires-3
adjusted-requires-3 c = let d = c.args.q.depth in omega (arith, limit 4 d (omega arith) c.args.q.deep.1, limit-low 4 d (omega arith) c.args.q.deep.1)

pub overflow_cast-one : goal.overflow_cast-one
overflow_cast-one c = let d = c.args.q.depth in omega (arith, limit 1 d (omega arith) c.args.q.deep.1, limit-low 1 d (omega arith) c.args.q.deep.1)

pub overflow_cast-two : goal.overflow_cast-two
overflow_cast-two c = let d = c.args.q.depth in omega (arith, limit 2 d (omega arith) c.args.q.deep.1, limit-low 2 d (omega arith) c.args.q.deep.1)

pub overflow_cast-adjusted : goal.overflow_cast-adjusted
overflow_cast-adjusted c = let d = c.args.q.depth in rw c.adjusted.ensures (omega (arith, limit 1 d (omega arith) c.args.q.deep.1, limit-low 1 d (omega arith) c.args.q.deep.1, adjusted-low c.args.q.way ((1 * 2 ^ (d - 8)) % 2 ^ 32)))

pub overflow_cast-adjusted-2 : goal.overflow_cast-adjusted-2
overflow_cast-adjusted-2 c = let d = c.args.q.depth in rw c.adjusted-2.ensures (omega (arith, limit 2 d (omega arith) c.args.q.deep.1, limit-low 2 d (omega arith) c.args.q.deep.1, adjusted-low c.args.q.way ((2 * 2 ^ (d - 8)) % 2 ^ 32)))

pub overflow_cast-adjusted-3 : goal.overflow_cast-adjusted-3
overflow_cast-adjusted-3 c = let d = c.args.q.depth in rw c.adjusted-3.ensures (omega (arith, limit 4 d (omega arith) c.args.q.deep.1, limit-low 4 d (omega arith) c.args.q.deep.1, adjusted-low c.args.q.way ((4 * 2 ^ (d - 8)) % 2 ^ 32)))

pub returns : goal.returns
returns c = let q = c.args.q in let d = q.depth in strengths-is q.way q.dir q.damping d _ _ _ _ _ _ _ _ _ _ _ _ _ _ c.from_one-d.ensures (limit 1 d (omega arith) q.deep.1) (limit 2 d (omega arith) q.deep.1) (limit 4 d (omega arith) q.deep.1) c.adjusted.ensures c.adjusted-2.ensures c.adjusted-3.ensures c.taps.ensures c.taps-2.ensures c.primary.ensures c.primary-2.ensures c.primary-3.ensures c.secondary.ensures c.secondary-2.ensures
