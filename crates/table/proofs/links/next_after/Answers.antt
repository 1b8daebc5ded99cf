-- An index from 1 is that of a slot.
use Rattle.table.proofs.MaskLaws.{next_none, next_some}
use Rattle.table.proofs.links.next_after.Goals as goal

pub returns-then-index-eq0 : goal.returns-then-index-eq0
returns-then-index-eq0 c = next_none c.args.t _ c.if-index-eq0.true

pub returns : goal.returns
returns c = next_some c.args.t _ c.if-index-eq0.false
