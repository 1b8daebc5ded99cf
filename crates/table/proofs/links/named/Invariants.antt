-- `table::links::named` meets its contract: after some records the names are theirs. Assumes nothing.
use mathlib.Core.Path.{◌≡◌}
use Rattle.table.proofs.NamedLaws.{names_to}
use Rattle.table.proofs.links.named.Given as goal

abbrev pub invariant-loop-c : goal.invariant-loop-c
invariant-loop-c l = l.names ≡ names_to l.fn.t l.fn.t.count l.c-index
