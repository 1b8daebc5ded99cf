-- `Chained::demand` meets its contract. The loop: the sum so far is that of the slots passed, those below the level adding nothing.
use mathlib.Core.Path.{◌≡◌}
use Prim.Native.Nat.{◌+◌, ◌*◌, ◌≤◌}
use Rattle.ranges.specs.Sum.{sum as total}
use Rattle.windows.specs.Parts.{work_in, most_work}
use Rattle.windows.proofs.Chained.demand.Given as goal

abbrev pub invariant-loop-i : goal.invariant-loop-i
invariant-loop-i l = (l.sum ≡ l.level.blocking + total l.i (work_in l.self.table l.level l.length)) × (l.sum ≤ 65535 + most_work * l.i)
