-- `write_bounds` meets its contract. The loop: the row is the one lent, with the bounds of the slots passed in its first places.
use mathlib.Core.Path.{◌≡◌}
use Rattle.lent.specs.Over.{over}
use Rattle.sheet.specs.Sheet.{bounds_to}
use Rattle.sheet.proofs.write_bounds.Given as goal

abbrev pub invariant-loop-i : goal.invariant-loop-i
invariant-loop-i l = l.row ≡ over l.initial.row 0 (bounds_to l.t.table l.i)
