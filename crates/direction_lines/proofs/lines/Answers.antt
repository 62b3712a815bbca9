-- `direction_lines::lines` meets its contract.
use Rattle.std.proofs.Common.{rules}
use Rattle.arith_sample.specs.FromFn.{from-each}
use Rattle.direction_lines.specs.Lines.{lines_of}
use Rattle.direction_lines.proofs.lines.Goals as goal

pub returns : goal.returns
returns c = unfold lines_of in from-each _ _ (λ i y q e. search rules) _ 16 c.from_fn.ensures.items
