-- `Chained::bound` meets its contract. Outer loop: the largest F(A) - A of the offsets passed, and the instances that the last of them charged; the length is not past F of the next offset, since F does not fall.
-- Inner loop: the length is not past F(A), and neither is the jump's end. What the jump does not go past is F(A), so that it ends there.
use mathlib.Core.Path.{◌≡◌}
use Prim.Native.Nat.{◌-◌, ◌≤◌, ◌<◌}
use Rattle.ranges.specs.Least.{largest}
use Rattle.windows.specs.Bounds.{arrivals_of, window_in}
use Rattle.windows.specs.Parts.{most_demand, demand_in, finish_in}
use Rattle.windows.proofs.Chained.bound.Given as goal

abbrev pub invariant-loop-length : goal.invariant-loop-length
invariant-loop-length l =
    (1 ≤ l.length) × (l.length ≤ finish_in l.self.table l.fn.level l.x l.offset) × (l.others ≡ demand_in l.self.table l.rest l.length) × (l.others ≤ most_demand)

abbrev pub decreases-loop-length : goal.decreases-loop-length
decreases-loop-length l = finish_in l.self.table l.fn.level l.x l.offset - l.length

abbrev pub invariant-loop-offset : goal.invariant-loop-offset
invariant-loop-offset l =
    (1 ≤ l.length)
    × (l.offset < window_in l.self.table l.fn.level → l.length ≤ finish_in l.self.table l.fn.level l.x l.offset)
    × (l.others ≡ demand_in l.self.table l.rest l.length)
    × (l.others ≤ most_demand)
    × (l.count ≡ arrivals_of l.self.table l.x l.offset)
    × (l.worst ≡ largest l.offset (λ A. finish_in l.self.table l.fn.level l.x A - A))
