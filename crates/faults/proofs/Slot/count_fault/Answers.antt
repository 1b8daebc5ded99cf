-- Each test of the definition is one of the code.
use borrow.Author.Tests.{lt-ltb, le-ltb}
use Rattle.faults.specs.Faults.{count_wrong}
use Rattle.faults.proofs.Slot.count_fault.Goals as goal

pub returns-then-self-gt-MOST_WAITING : goal.returns-then-self-gt-MOST_WAITING
unfolding count_wrong
returns-then-self-gt-MOST_WAITING c = simp (lt-ltb _ _ c.if-self-gt-MOST_WAITING.true)

pub returns-else-self-gt-MOST_WAITING : goal.returns-else-self-gt-MOST_WAITING
unfolding count_wrong
returns-else-self-gt-MOST_WAITING c = simp (le-ltb _ _ c.if-self-gt-MOST_WAITING.false)
