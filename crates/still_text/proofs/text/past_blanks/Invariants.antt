-- `still_text::text::past_blanks` meets its contract.
use Rattle.std.proofs.Common.{◌≡◌, false, drop, length}
use Rattle.still_text.specs.Text.{blanks}
use Rattle.still_text.proofs.text.past_blanks.Given as goal

-- what is still to be passed ends where the whole ends
abbrev pub invariant-loop-b : goal.invariant-loop-b
invariant-loop-b l = drop (blanks l.comment l.rest) l.rest ≡ drop (blanks false l.text) l.text

abbrev pub decreases-loop-b : goal.decreases-loop-b
decreases-loop-b l = length l.rest
