-- `filter_rows::both::load_pair` meets its contract.
use Rattle.std.proofs.Common.{refl}
use Rattle.filter_rows.specs.Place.{on_from, back_from}
use Rattle.filter_rows.specs.Pairs.{pair_of}
use Rattle.filter_rows.proofs.both.load_pair.Goals as goal

pub returns : goal.returns
unfolding pair_of on_from back_from
returns c = refl
