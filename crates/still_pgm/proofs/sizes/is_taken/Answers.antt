-- `still_pgm::sizes::is_taken` meets its contract.
use Rattle.std.proofs.Common.{sym, ◌∙◌}
use Rattle.std.proofs.lemmas.Bool.{false≢true}
use Rattle.still_pgm.specs.Sizes.{is_side, is_taken}
use Rattle.still_pgm.proofs.sizes.is_taken.Goals as goal
use Rattle.still_pgm.proofs.sizes.is_taken.Goals.{then-side_taken, else-side_taken}

pub returns-then-side_taken-2 : goal.returns-then-side_taken-2
unfolding is_taken is_side
returns-then-side_taken-2 c = elim c.if-side_taken.branch [
  | then-side_taken w ↦ rw (← c.side_taken.ensures, ← w.side_taken-then-side_taken.ensures, w.if-side_taken.true, sym w.value-is ∙ c.if-side_taken-2.true, c.padded_side.ensures, c.padded_side-then-side_taken-2.ensures)
  | else-side_taken w ↦ absurd (false≢true (sym w.if-side_taken.false ∙ sym w.value-is ∙ c.if-side_taken-2.true))
]

pub returns-else-side_taken-2 : goal.returns-else-side_taken-2
unfolding is_taken is_side
returns-else-side_taken-2 c = elim c.if-side_taken.branch [
  | then-side_taken w ↦ rw (← c.side_taken.ensures, ← w.side_taken-then-side_taken.ensures, w.if-side_taken.true, sym w.value-is ∙ c.if-side_taken-2.false) c.if-side_taken-2.false
  | else-side_taken w ↦ rw (← c.side_taken.ensures, w.if-side_taken.false) (w.value-is ∙ w.if-side_taken.false)
]
