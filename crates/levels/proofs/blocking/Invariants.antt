-- `blocking` meets its contract. The loop: the largest E(1) of the mask's slots passed; one less than it is returned.
use mathlib.Core.Path.{◌≡◌}
use Prim.Native.Nat.{ℕ, ◌≤◌}
use Rattle.masks.specs.Mask.{has}
use Rattle.ranges.specs.Sum.{given}
use Rattle.ranges.specs.Least.{largest}
use Rattle.table.specs.declared.Table.{Table}
use Rattle.windows.specs.Bounds.{cost_of}
use Rattle.levels.proofs.blocking.Given as goal

-- what slot j counts
abbrev pub one : Table → ℕ → ℕ → ℕ
one t below j = given (has below j) (cost_of t j 1)

abbrev pub invariant-loop-i : goal.invariant-loop-i
invariant-loop-i l = (l.most ≡ largest l.i (one l.t.table l.below)) × (l.most ≤ 65535)
