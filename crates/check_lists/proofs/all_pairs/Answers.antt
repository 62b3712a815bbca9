-- `check_lists::all_pairs` meets its contract.
use Rattle.std.specs.Prelude.{IsTrue, ◌↔◌}
use Rattle.std.specs.List.{AllPass}
use Rattle.std.proofs.Common.{rules}
use Rattle.cdef_spec.specs.Questions.{pair_taken}
use Rattle.check_lists.specs.EachLaws.{all-taken}
use Rattle.check_lists.proofs.all_pairs.Goals as goal

pub returns : goal.returns
returns c =
    let each : IsTrue c.all.result ↔ AllPass pair_taken c.args.list.now = search rules in
    all-taken pair_taken c.all.result _ each.0 each.1
