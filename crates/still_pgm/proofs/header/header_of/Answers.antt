-- `still_pgm::header::header_of` meets its contract.
use Rattle.std.proofs.Common.{sym, ap, ◌∙◌}
use Rattle.still_pgm.specs.Header.{word_of}
use Rattle.still_pgm.specs.HeaderLaws.{p5_is, header_other, header_no_width, header_no_height, header_no_maximum, header_ends, header_no_blank, header_is}
use Rattle.still_pgm.proofs.header.header_of.Goals as goal

pub returns-in_err-rest : goal.returns-in_err-rest
returns-in_err-rest c = rw c.from_residual.ensures (header_other _ (sym (p5_is _) ∙ c.in_err-rest.ensures.cases))

pub returns-in_err-width : goal.returns-in_err-width
returns-in_err-width c = rw c.from_residual-in_err-width.ensures (header_no_width _ (sym (p5_is _) ∙ c.in_ok-rest.ensures.cases.0) (c.in_err-width.ensures ∙ ap word_of c.in_ok-rest.ensures.cases.1))

pub returns-in_err-height : goal.returns-in_err-height
returns-in_err-height c = rw c.from_residual-in_err-height.ensures (header_no_height _ (sym (p5_is _) ∙ c.in_ok-rest.ensures.cases.0) _ _ (c.in_ok-width.ensures ∙ ap word_of c.in_ok-rest.ensures.cases.1) c.in_err-height.ensures)

pub returns-in_err-maximum : goal.returns-in_err-maximum
returns-in_err-maximum c = rw c.from_residual-in_err-maximum.ensures (header_no_maximum _ (sym (p5_is _) ∙ c.in_ok-rest.ensures.cases.0) _ _ (c.in_ok-width.ensures ∙ ap word_of c.in_ok-rest.ensures.cases.1) _ _ c.in_ok-height.ensures c.in_err-maximum.ensures)

pub returns-in_err-blank : goal.returns-in_err-blank
returns-in_err-blank c = rw c.from_residual-in_err-blank.ensures (header_ends _ (sym (p5_is _) ∙ c.in_ok-rest.ensures.cases.0) _ _ (c.in_ok-width.ensures ∙ ap word_of c.in_ok-rest.ensures.cases.1) _ _ c.in_ok-height.ensures _ _ c.in_ok-maximum.ensures c.in_err-blank.ensures.cases)

pub returns-then-not-is_blank : goal.returns-then-not-is_blank
returns-then-not-is_blank c = header_no_blank _ (sym (p5_is _) ∙ c.in_ok-rest.ensures.cases.0) _ _ (c.in_ok-width.ensures ∙ ap word_of c.in_ok-rest.ensures.cases.1) _ _ c.in_ok-height.ensures _ _ c.in_ok-maximum.ensures _ _ c.in_ok-blank.ensures.cases.0 (sym c.is_blank.ensures ∙ c.if-not-is_blank.true)

pub returns : goal.returns
returns c = header_is _ (sym (p5_is _) ∙ c.in_ok-rest.ensures.cases.0) _ _ (c.in_ok-width.ensures ∙ ap word_of c.in_ok-rest.ensures.cases.1) _ _ c.in_ok-height.ensures _ _ c.in_ok-maximum.ensures _ _ c.in_ok-blank.ensures.cases.0 (sym c.is_blank.ensures ∙ c.if-not-is_blank.false)
