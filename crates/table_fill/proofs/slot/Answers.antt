-- `slot` meets its contract: the test says whether the place names `#PCDATA`.
use borrow.Author.Tests.{eq-eqb, ne_eqb}
use Rattle.table_fill.proofs.slot.Goals as goal

pub returns-then-v-eq-PCDATA : goal.returns-then-v-eq-PCDATA
returns-then-v-eq-PCDATA c = simp (eq-eqb _ _ c.if-v-eq-PCDATA.true)

pub returns-else-v-eq-PCDATA : goal.returns-else-v-eq-PCDATA
returns-else-v-eq-PCDATA c = simp (ne_eqb _ _ c.if-v-eq-PCDATA.false)
