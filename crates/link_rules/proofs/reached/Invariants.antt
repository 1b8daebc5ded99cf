-- `reached` meets its contract: after i slots, what the heads below i reach. Assumes nothing.
use mathlib.Core.Path.{◌≡◌}
use Rattle.link_rules.specs.Parts.{reached_to}
use Rattle.link_rules.proofs.reached.Given as goal

abbrev pub invariant-loop-i : goal.invariant-loop-i
invariant-loop-i l = l.met ≡ reached_to l.t l.heads l.i
