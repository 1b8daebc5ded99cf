-- `by_kind` meets its contract: after some records their slots are sorted. Assumes nothing.
use mathlib.Core.Path.{◌≡◌}
use Rattle.priority.specs.Parts.{kinds_to}
use Rattle.priority.proofs.by_kind.Given as goal

abbrev pub invariant-loop-i : goal.invariant-loop-i
invariant-loop-i l = l.k ≡ kinds_to l.fn.t l.i
