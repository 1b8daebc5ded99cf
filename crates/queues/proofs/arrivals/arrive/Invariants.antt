-- The slots still to come, counted from what stands, give what the whole mask gives from the counts at entry.
use Rattle.queues.proofs.ArrivedLaws.{Counting}
use Rattle.queues.proofs.arrivals.arrive.Given as goal

abbrev pub invariant-loop-slot : goal.invariant-loop-slot
invariant-loop-slot l =
    (goal.iterator-loop-slot).can_next l.slot-iterator
    × (goal.iterator-loop-slot).is_finite l.slot-iterator
    × Counting l.fn.mask l.initial.counts (l.slot-iterator).mask l.counts
