-- `testlib_lines::numbers::LenientNumbers::text` meets its contract.
use Rattle.std.proofs.Common.{sym, ap, ◌≡◌, ◌∙◌, drop, suc, arith}
use Rattle.std.proofs.lemmas.Grind.{common_steps}
use Rattle.testlib_lines.specs.Lines.{numbers_in}
use Rattle.testlib_lines.proofs.LineLaws.{behind_first, behind_in}
use Rattle.testlib_lines.proofs.numbers.LenientNumbers.text.Goals as goal

pub returns : goal.returns
returns c =
    let line = c.args.self.now.rest.now in
    let end = c.first_end-end.result in
    let cut : c.unwrap_or-self.result.now ≡ drop (suc end) line = let a = c.get.ensures.lookup in let b = c.unwrap_or-self.ensures in grind (arith, common_steps) in
    ap numbers_in cut ∙ sym (behind_first line end c.first_end-end.ensures.before c.first_end-end.ensures.at) ∙ sym (behind_in line)
