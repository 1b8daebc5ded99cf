-- `above_sum` meets its contract: the first j ways to split k + 1 in two have no lower sum, and half of them suffice. Assumes nothing.
use mathlib.Core.Path.{◌≡◌}
use mathlib.Core.Bool.{true}
use Rattle.ranges.specs.Every.{every}
use Rattle.rules.specs.Rules.{joins}
use Rattle.rules.proofs.above_sum.Given as goal

abbrev pub invariant-loop-j : goal.invariant-loop-j
invariant-loop-j l = every l.j (joins l.c.entries l.k) ≡ true
