-- After i steps the first i places are filled.
use mathlib.Core.Path.{◌≡◌}
use Rattle.table.specs.Values.{headless, placed}
use Rattle.writer.specs.Parts.{narrow_slot}
use Rattle.writer.proofs.described.table_of.Given as goal

abbrev pub invariant-loop-i : goal.invariant-loop-i
invariant-loop-i l = l.t ≡ headless (placed (narrow_slot l.records) l.i)
