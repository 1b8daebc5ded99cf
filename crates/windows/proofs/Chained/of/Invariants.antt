-- `Chained::of` meets its contract. The loop: the heads of the slots passed stand in their places.
use mathlib.Core.Path.{◌≡◌}
use Prim.Native.Nat.{ℕ, ◌<◌}
use lib.ListN.{length, get_or}
use Rattle.numbers.specs.Numbers.{places}
use Rattle.chains.specs.Chains.{head_of}
use Rattle.windows.proofs.Chained.of.Given as goal

abbrev pub invariant-loop-i : goal.invariant-loop-i
invariant-loop-i l = (length l.heads ≡ places) × ((j : ℕ) → j < l.i → get_or l.heads j 0 ≡ head_of l.t j)
