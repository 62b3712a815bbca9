-- `agree_parts::trial_pairs` meets its contract: `all` answers the test of every unit.
use Rattle.std.proofs.Common.{refl, rules, tests, sym, ◌∙◌, arith, lt-ltb}
use Rattle.std.proofs.lemmas.Iterator.{YieldsList-from_range}
use Rattle.std.proofs.lemmas.Iterator.Search.{all_from_yields_List}
use Rattle.cdef_spec.specs.Document01.{is_trial_pair}
use Rattle.cdef_spec.specs.Picture.{pair_at}
use Rattle.agree_parts.specs.PartLaws.{every-below, many-pairs, few-pairs}
use Rattle.agree_parts.proofs.trial_pairs.Goals as goal

pub returns-then-n-gt4096 : goal.returns-then-n-gt4096
returns-then-n-gt4096 g c = lt-ltb 4096 c.count-n.result c.if-n-gt4096.true ∙ many-pairs _ (omega (arith, c.count-n.ensures, c.if-n-gt4096.true))

pub returns-else-n-gt4096 : goal.returns-else-n-gt4096
returns-else-n-gt4096 g c =
    let ps = g.P.Pairs.pairs c.args.pairs.now in
    let n = c.count-n.result in
    let all = all_from_yields_List (λ u. is_trial_pair (pair_at ps u)) _ _ _ c.all.ensures.ran (YieldsList-from_range 0 n n (refl) (omega arith)) (λ x b q k. search (rules, tests)) in
    few-pairs ps _ (omega (arith, c.count-n.ensures, c.if-n-gt4096.false)) (rw (← c.count-n.ensures) (sym (all ∙ every-below (λ u. is_trial_pair (pair_at ps u)) n)))
