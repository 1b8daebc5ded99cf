-- `lower` meets its contract. The loop: the mask so far is that of the slots passed.
use mathlib.Core.Path.{◌≡◌}
use Rattle.masks.specs.Mask.{gather}
use Rattle.priority.specs.Priority.{precedes}
use Rattle.levels.proofs.lower.Given as goal

abbrev pub invariant-loop-i : goal.invariant-loop-i
invariant-loop-i l = l.below ≡ gather (precedes l.t.table l.x) l.i
