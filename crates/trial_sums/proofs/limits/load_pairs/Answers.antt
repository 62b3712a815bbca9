-- `trial_sums::limits::load_pairs` meets its contract.
use Rattle.filter_rows.specs.Pairs.{pairs_of}
use Rattle.trial_sums.proofs.limits.load_pairs.Goals as goal

pub returns : goal.returns
unfolding pairs_of
returns c = rw (c.before.before.before.before.before.load.ensures, c.before.before.before.before.load-2.ensures, c.before.before.before.load-3.ensures, c.before.before.load-4.ensures, c.before.load-5.ensures, c.load-6.ensures)
