-- `Chained::window` meets its contract. The loop: what is left of the search at this length is the whole of it.
use mathlib.Core.Path.{◌≡◌}
use Prim.Native.Nat.{◌+◌, ◌-◌, ◌≤◌}
use Rattle.ranges.proofs.LeastLaws.{rest}
use Rattle.windows.specs.Bounds.{window_in}
use Rattle.windows.specs.Parts.{covered_in}
use Rattle.windows.proofs.Chained.window.Given as goal

abbrev pub invariant-loop-length : goal.invariant-loop-length
invariant-loop-length l = (1 ≤ l.length) × (rest (covered_in l.self.table l.level) l.horizon l.length ≡ window_in l.self.table l.level)

abbrev pub decreases-loop-length : goal.decreases-loop-length
decreases-loop-length l = l.horizon + 1 - l.length
