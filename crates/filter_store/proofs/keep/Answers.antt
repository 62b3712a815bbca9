-- `filter_store::keep` meets its contract.
use borrow.Author.Tests.{eq-eqb, ne_eqb}
use Rattle.cdef_spec.specs.Document01.{unmarked, or_else}
use Rattle.filter_store.proofs.keep.Goals as goal

pub returns-then-v-eq-MARK : goal.returns-then-v-eq-MARK
unfolding unmarked or_else
returns-then-v-eq-MARK c = rw (eq-eqb c.before.args.v 16384 c.if-v-eq-MARK.true)

pub returns-else-v-eq-MARK : goal.returns-else-v-eq-MARK
unfolding unmarked or_else
returns-else-v-eq-MARK c = rw (ne_eqb c.before.args.v 16384 c.if-v-eq-MARK.false)
