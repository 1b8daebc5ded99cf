-- `first_crowded` meets its contract. The loop: what is left of the search at this slot is the whole of it.
use mathlib.Core.Path.{◌≡◌}
use Rattle.ranges.proofs.LeastLaws.{rest_slots}
use Rattle.sheet.specs.Sheet.{too_many_at}
use Rattle.sheet.proofs.CrowdedLaws.{crowded}
use Rattle.sheet.proofs.first_crowded.Given as goal

abbrev pub invariant-loop-i : goal.invariant-loop-i
invariant-loop-i l = rest_slots (crowded l.t.table l.window) l.t.table.count l.i ≡ too_many_at l.t.table l.window
