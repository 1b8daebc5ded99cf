-- `closed` meets its contract: after k steps the first k entries are replaced, and the others as they were. Assumes nothing.
use mathlib.Core.Path.{◌≡◌}
use lib.ListN.{length}
use Rattle.closure.proofs.ClosureLaws.{replaced}
use Rattle.closure.proofs.closed.Given as goal

abbrev pub invariant-loop-k : goal.invariant-loop-k
invariant-loop-k l = (length l.sums ≡ 8) × (l.sums ≡ replaced l.entries l.used l.k)
