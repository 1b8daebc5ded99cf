-- `feeders` meets its contract: each place holds the lowest of the records looked at that names it. Assumes nothing.
use mathlib.Core.Path.{◌≡◌}
use Prim.Native.Nat.{ℕ, ◌<◌}
use lib.ListN.{length, get_or}
use Rattle.std.specs.Prelude.{None}
use Rattle.masks.specs.Parts.{some_index}
use Rattle.ranges.proofs.LeastLaws.{rest_slots}
use Rattle.chains.proofs.ChainLaws.{naming}
use Rattle.chains.proofs.feeders.Given as goal

abbrev pub invariant-loop-i : goal.invariant-loop-i
invariant-loop-i l = (length l.by ≡ 16) × ((i : ℕ) → i < 16 → get_or l.by i None ≡ some_index (rest_slots (naming l.t i) l.t.count l.i))
