-- Index 0 activates nobody; any other is that of a slot.
use Rattle.queues.proofs.QueueLaws.{counted_none, counted-some}
use Rattle.queues.proofs.arrivals.complete.Goals as goal

pub returns-else-next-ne0 : goal.returns-else-next-ne0
returns-else-next-ne0 c = counted_none _ _ c.if-next-ne0.false

pub returns-then-next-ne0 : goal.returns-then-next-ne0
returns-then-next-ne0 c = counted-some _ _ c.if-next-ne0.true
