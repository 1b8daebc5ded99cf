-- No slot passed is full, so the slots still to come give what the whole mask gives.
use mathlib.Core.Path.{◌≡◌}
use Rattle.queues.specs.Parts.{full_in}
use Rattle.queues.proofs.full.first_full.Given as goal

abbrev pub invariant-loop-slot : goal.invariant-loop-slot
invariant-loop-slot l =
    (goal.iterator-loop-slot).can_next l.slot-iterator
    × (goal.iterator-loop-slot).is_finite l.slot-iterator
    × (full_in l.waiting (l.slot-iterator).mask ≡ full_in l.waiting l.fn.mask)
