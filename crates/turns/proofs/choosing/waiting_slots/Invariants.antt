-- The masks have the slots passed that wait.
use Rattle.turns.proofs.ChooseLaws.{Sorted}
use Rattle.turns.proofs.choosing.waiting_slots.Given as goal

abbrev pub invariant-loop-i : goal.invariant-loop-i
invariant-loop-i l = Sorted l.fn.t l.waiting l.i l.gathered l.others
