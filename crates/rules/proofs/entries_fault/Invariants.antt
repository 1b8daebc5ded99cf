-- `entries_fault` meets its contract: last is the entry before the next one, and the entries rise as far. Assumes nothing.
use mathlib.Core.Path.{◌≡◌}
use mathlib.Core.Bool.{true}
use Rattle.curves.specs.Cost.{entry}
use Rattle.ranges.specs.Every.{every}
use Rattle.rules.proofs.RulesLaws.{rises}
use Rattle.rules.proofs.entries_fault.Given as goal

abbrev pub invariant-loop-entry : goal.invariant-loop-entry
invariant-loop-entry l = (l.last ≡ entry l.fn.c.entries l.entry-index) × (every l.entry-index (rises l.fn.c) ≡ true)
