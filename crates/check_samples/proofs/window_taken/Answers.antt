-- `fold` takes the tests of all entries together.
use Rattle.std.proofs.Common.{◌≡◌, ap, sym, rules, tests, ◌∙◌, ◌&&◌, true, arith}
use Rattle.std.proofs.Math.ListN.{take}
use Rattle.std.specs.List.{fold}
use Rattle.std.proofs.lemmas.List.{take_all}
use Rattle.std.proofs.lemmas.Iterator.{YieldsList-from_slice}
use Rattle.std.proofs.lemmas.Iterator.Consumers.{fold_from_yields_List}
use Rattle.cdef_spec.specs.Questions.{sample_or_mark}
use Rattle.check_samples.specs.LookedLaws.{every-of}
use Rattle.check_samples.proofs.window_taken.Goals as goal

pub returns : goal.returns
unfolding sample_or_mark
returns c =
    let all : take 144 c.args.w.now ≡ c.args.w.now = take_all 144 c.args.w.now (omega arith) in
    fold_from_yields_List _ (λ t x. t && sample_or_mark c.args.depth x) true _ c.fold.ensures.ran (YieldsList-from_slice c.args.w.now cc) (λ a x b q k. search (rules, tests))
    ∙ (ap (fold (λ t x. t && sample_or_mark c.args.depth x) true) (sym all) ∙ every-of (sample_or_mark c.args.depth) c.args.w.now 144 (omega arith))
