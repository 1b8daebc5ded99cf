-- An edition is 2 or it is not; then the kind is that of timers or it is not.
use borrow.Author.Tests.{eq-eqb, ne_eqb}
use Rattle.turns.specs.Choosing.{polled}
use Rattle.turns.proofs.choosing.polled.Goals as goal

pub returns-then-edition : goal.returns-then-edition
unfolding polled
returns-then-edition c = simp (eq-eqb _ _ c.if-edition.true)

pub returns-else-edition : goal.returns-else-edition
unfolding polled
returns-else-edition c = simp (ne_eqb _ _ c.if-edition.false)
