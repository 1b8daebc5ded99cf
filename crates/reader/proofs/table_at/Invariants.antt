-- `table_at` meets its contract: after i records the first i places are filled. Assumes nothing.
use mathlib.Core.Path.{◌≡◌}
use Rattle.table.specs.Values.{headless}
use Rattle.reader.specs.Format.{records_to}
use Rattle.reader.proofs.table_at.Given as goal

abbrev pub invariant-loop-i : goal.invariant-loop-i
invariant-loop-i l = l.t ≡ headless (records_to l.b l.i)
