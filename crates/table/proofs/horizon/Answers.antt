-- `table::horizon` meets its contract: H = 0 means 60,000. Assumes nothing.
use borrow.Author.Tests.{eq-eqb, ne_eqb}
use Rattle.table.specs.Values.{horizon_of}
use Rattle.table.proofs.horizon.Goals as goal

pub returns-then-t-eq0 : goal.returns-then-t-eq0
unfolding horizon_of
returns-then-t-eq0 c = rw (eq-eqb _ 0 c.if-t-eq0.true, horizon_of)

pub returns : goal.returns
unfolding horizon_of
returns c = rw (ne_eqb _ 0 c.if-t-eq0.false, horizon_of)
