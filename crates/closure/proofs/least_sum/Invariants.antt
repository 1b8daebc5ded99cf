-- `least_sum` meets its contract: after j steps best is the smallest of the entry and the sums by a first part up to j. Assumes nothing.
use mathlib.Core.Path.{◌≡◌}
use mathlib.Core.List.{List}
use Prim.Native.Nat.{ℕ, suc, ◌+◌, ◌-◌, ◌≤◌}
use Rattle.ranges.specs.Least.{smallest}
use Rattle.curves.specs.Cost.{entry}
use Rattle.closure.proofs.least_sum.Given as goal

-- the sum by a first part of position i + 1
abbrev pub first_sum : List ℕ → List ℕ → ℕ → ℕ → ℕ
first_sum entries sums k i = entry entries (suc i) + entry sums (k - i)

abbrev pub invariant-loop-j : goal.invariant-loop-j
invariant-loop-j l = (l.best ≤ 65535) × (l.best ≡ smallest (entry l.entries (suc l.k)) l.j (first_sum l.entries l.sums l.k))
