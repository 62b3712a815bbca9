-- `testlib_lines::numbers::Numbers::rest` meets its contract.
use Rattle.std.proofs.Common.{◌≡◌, ◌<◌, ◌∙◌, sym, ap, arith, Bool, true, false, List, [], ◌∷◌, ◌++◌, Option, None, length, IsTrue, vec_len}
use Rattle.std.proofs.lemmas.Bool.{false≢true}
use Rattle.std.proofs.lemmas.List.{length-append}
use Rattle.std.proofs.lemmas.Result.{IfOk-weaker}
use Rattle.std.specs.Iterator.{Yields}
use Rattle.std.specs.Iterator.Runs.{Run, YieldsRun}
use Rattle.std.specs.Str.Iter.{split_has_more}
use Rattle.testlib_lines.proofs.numbers.Numbers.rest.Goals as goal

module _ {S A : Type 0} (steps : S → Option A → S → Type 0) (has_more : S → Bool) (no_more : (s u : S) → steps s None u → false ≡ has_more s) where
  -- where an item is to come, one comes
  one_comes : (items : List A) (s t u : S) → Yields steps s items t → steps t None u → IsTrue (has_more s) → 0 < length items
  one_comes [] s t u same done more = absurd (false≢true (no_more t u done ∙ ap has_more (sym same) ∙ more))
  one_comes (item ∷ items) s t u y done more = omega arith

  some_come : (s : S) (q : Run steps) → q.from ≡ s → q.whole ≡ true → IsTrue (has_more s) → 0 < q.len
  unfolding YieldsRun
  some_come s q from whole more =
      let g = q.gave.0 in
      let last = g.2 whole in
      rw q.long (one_comes q.items q.from g.0 last.0 g.1 last.1 (rw from more))

pub returns : goal.returns
returns c = IfOk-weaker _ _ (λ samples. IsTrue (split_has_more c.args.self.words) → 0 < vec_len samples) (λ samples w. λ more.
    let source = c.map.ensures.runs w.0 w.0.seen w.1 in
    let long = some_come _ split_has_more (λ s u done. done.0) _ source.0 source.1 (source.2.0 ∙ w.2) more in
    let made = w.3 (λ xs v x u m e. (e.0 ∙ ap (λ l. l ++ (x ∷ [])) m.0, omega (arith, e.1, m.1, length-append xs (x ∷ [])))) in
    omega (arith, made.1.1, made.2, source.2.1, long)) c.try_collect.ensures.runs
