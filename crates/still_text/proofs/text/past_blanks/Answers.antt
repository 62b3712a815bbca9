-- `still_text::text::past_blanks` meets its contract.
use Rattle.std.proofs.Common.{sym, ◌∙◌}
use Rattle.still_text.specs.TextLaws.{blanks_stop, blanks_more}
use Rattle.still_text.proofs.text.past_blanks.Goals as goal

pub returns-then-not-is_passed : goal.returns-then-not-is_passed
returns-then-not-is_passed c = sym (blanks_stop c.loop-b.comment _ _ _ c.in-Some.ensures.cases.0 (sym c.is_passed.ensures ∙ c.if-not-is_passed.true)) ∙ c.loop-b.invariant

pub loop-b-preserved : goal.loop-b-preserved
loop-b-preserved c = rw c.comment_after-comment.ensures (sym (blanks_more c.loop-b.comment _ _ _ c.in-Some.ensures.cases.0 (sym c.is_passed.ensures ∙ c.if-not-is_passed.false)) ∙ c.loop-b.invariant)
