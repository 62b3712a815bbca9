-- `check_lists::all_secondary` meets its contract.
use Rattle.std.specs.Prelude.{IsTrue, ◌↔◌}
use Rattle.std.specs.List.{AllPass}
use Rattle.std.proofs.Common.{rules}
use Rattle.cdef_spec.specs.Questions.{secondary_taken}
use Rattle.check_lists.specs.EachLaws.{all-taken}
use Rattle.check_lists.proofs.all_secondary.Goals as goal

pub returns : goal.returns
returns c =
    let each : IsTrue c.all.result ↔ AllPass secondary_taken c.args.list.now = search rules in
    all-taken secondary_taken c.all.result _ each.0 each.1
