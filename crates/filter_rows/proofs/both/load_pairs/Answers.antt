-- `filter_rows::both::load_pairs` meets its contract.
use Rattle.filter_rows.specs.Pairs.{pairs_of}
use Rattle.filter_rows.proofs.both.load_pairs.Goals as goal

pub returns : goal.returns
unfolding pairs_of
returns c = rw (c.before.before.before.before.before.load_pair.ensures, c.before.before.before.before.load_pair-2.ensures, c.before.before.before.load_pair-3.ensures, c.before.before.load_pair-4.ensures, c.before.load_pair-5.ensures, c.load_pair-6.ensures)
