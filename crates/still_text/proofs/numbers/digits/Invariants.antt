-- `still_text::numbers::digits` meets its contract.
use Rattle.std.proofs.Common.{◌≡◌, ◌+◌, ◌≤◌, min, drop, length}
use Rattle.still_text.specs.Text.{most, decimal, digit_count}
use Rattle.still_text.proofs.numbers.digits.Given as goal

abbrev pub invariant-loop-b : goal.invariant-loop-b
invariant-loop-b l = record {
  value : min most (decimal l.value l.rest) ≡ min most (decimal 0 l.text);
  rest : drop (digit_count l.rest) l.rest ≡ drop (digit_count l.text) l.text;
  count : digit_count l.rest + length l.text ≡ digit_count l.text + length l.rest;
  small : l.value ≤ most;
}

abbrev pub decreases-loop-b : goal.decreases-loop-b
decreases-loop-b l = length l.rest
