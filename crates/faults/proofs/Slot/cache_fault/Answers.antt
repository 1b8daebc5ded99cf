-- Each test of the definition is one of the code; where a callback is cached, the last one fails.
use borrow.Author.Tests.{eq-eqb, ne_eqb}
use Rattle.faults.specs.Faults.{cache_wrong}
use Rattle.faults.proofs.ValueLaws.{cached_only, running_only}
use Rattle.faults.proofs.Slot.cache_fault.Goals as goal

pub returns-then-self-eq0 : goal.returns-then-self-eq0
unfolding cache_wrong
returns-then-self-eq0 c = simp (c.if-self.true, eq-eqb _ _ c.if-self-eq0.true)

pub returns-else-self-eq0 : goal.returns-else-self-eq0
unfolding cache_wrong
returns-else-self-eq0 c = simp (c.if-self.true, ne_eqb _ _ c.if-self-eq0.false) (cached_only c.args.self.runs c.args.self.polled)

pub returns-then-self-eq0-2 : goal.returns-then-self-eq0-2
unfolding cache_wrong
returns-then-self-eq0-2 c = simp (c.if-self.false, c.if-self-2.true, eq-eqb _ _ c.if-self-eq0-2.true)

pub returns-else-self-eq0-2 : goal.returns-else-self-eq0-2
unfolding cache_wrong
returns-else-self-eq0-2 c = simp (c.if-self.false, c.if-self-2.true, ne_eqb _ _ c.if-self-eq0-2.false) (running_only c.args.self.polled)

pub returns-else-self-2 : goal.returns-else-self-2
unfolding cache_wrong
returns-else-self-2 c = simp (c.if-self.false, c.if-self-2.false)
