-- No slot passed has a fault.
use mathlib.Core.Path.{◌≡◌}
use mathlib.Core.Bool.{false}
use Rattle.ranges.specs.Every.{some}
use Rattle.faults.specs.Faults.{slot_fault}
use Rattle.faults.proofs.slots_fault.Given as goal

abbrev pub invariant-loop-i : goal.invariant-loop-i
invariant-loop-i l = some l.i (slot_fault l.t l.cache l.running l.waiting l.finished l.clock) ≡ false
