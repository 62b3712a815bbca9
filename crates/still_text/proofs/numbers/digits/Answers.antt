-- `still_text::numbers::digits` meets its contract.
use Rattle.std.proofs.Common.{rules, true, ◌≡◌, ◌+◌, ◌≤◌, ◌*◌, ◌-◌, ℕ, List, min, drop, length, sym, ap, ◌∙◌, arith}
use Rattle.still_text.specs.Text.{most, decimal, digit_count, is_digit}
use Rattle.still_text.specs.TextLaws.{digits_end, digits_stop, digits_more, digit_yes, digit_no, digit_range, capped_once}
use Rattle.still_text.proofs.numbers.digits.Goals as goal
use Rattle.still_text.proofs.numbers.digits.Goals.{in-Some+then-not-is_ascii_digit, in_default}

pub loop-b-preserved : goal.loop-b-preserved
loop-b-preserved c =
    let d : is_digit c.in-Some.b.now ≡ true = digit_yes _ (sym c.is_ascii_digit.ensures.value ∙ c.if-not-is_ascii_digit.false) in
    let m = digits_more _ _ _ c.in-Some.ensures.cases.0 c.loop-b.value d in
    let r = digit_range _ d in
    let x : c.min-value.result ≡ min most (c.loop-b.value * 10 + (c.in-Some.b.now - 48)) = omega (arith, c.min-value.ensures, c.from.ensures, r) in
    record {
      value = rw x (capped_once _ _ ∙ ap (λ (n : ℕ). min most n) (sym m.0) ∙ c.loop-b.invariant.value);
      rest = sym m.2 ∙ c.loop-b.invariant.rest;
      count = omega (arith, m.1, c.loop-b.invariant.count, c.in-Some.ensures.cases.1);
      small = omega (arith, c.min-value.ensures);
    }

-- the loop ends where the digits do
ended : (n : ℕ) (s text : List ℕ) → (decimal n s ≡ n) × (digit_count s ≡ 0) → min most (decimal n s) ≡ min most (decimal 0 text) → drop (digit_count s) s ≡ drop (digit_count text) text → digit_count s + length text ≡ digit_count text + length s → n ≤ most
    → (n ≡ min most (decimal 0 text)) × (s ≡ drop (digit_count text) text) × (length text ≡ digit_count text + length s)
ended n s text e v r k m = (omega (arith, e.0, v), rw e.1 at r, omega (arith, e.1))

pub returns-then-rest-text : goal.returns-then-rest-text
returns-then-rest-text c =
    let i = c.loop-b.invariant in
    elim c.match-split_first.branch [
      | in-Some+then-not-is_ascii_digit w ↦ omega (arith, c.if-rest-text.true, (ended _ _ _ (digits_stop _ _ _ w.in-Some.ensures.cases.0 _ (digit_no _ (sym w.is_ascii_digit.ensures.value ∙ w.if-not-is_ascii_digit.true))) i.value i.rest i.count i.small).2)
      | in_default w ↦ omega (arith, c.if-rest-text.true, (ended _ _ _ (digits_end _ _ (search rules)) i.value i.rest i.count i.small).2)
    ]

pub returns : goal.returns
returns c =
    let i = c.loop-b.invariant in
    elim c.match-split_first.branch [
      | in-Some+then-not-is_ascii_digit w ↦ let e = ended _ _ _ (digits_stop _ _ _ w.in-Some.ensures.cases.0 c.loop-b.value (digit_no _ (sym w.is_ascii_digit.ensures.value ∙ w.if-not-is_ascii_digit.true))) i.value i.rest i.count i.small in (omega (arith, c.if-rest-text.false, e.2), e.0, e.1)
      | in_default w ↦ let e = ended _ _ _ (digits_end c.loop-b.value c.loop-b.rest.now (search rules)) i.value i.rest i.count i.small in (omega (arith, c.if-rest-text.false, e.2), e.0, e.1)
    ]
