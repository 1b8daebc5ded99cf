-- `normalise` meets its contract: after i steps the entries of the first i records are replaced, and every other byte is as it was. Assumes nothing.
use mathlib.Core.Path.{◌≡◌}
use Prim.Native.Nat.{◌≤◌}
use lib.ListN.{length}
use Rattle.numbers.specs.Numbers.{places}
use Rattle.normaliser.specs.Normaliser.{closed_to}
use Rattle.normaliser.proofs.normalise.Given as goal

abbrev pub invariant-loop-i : goal.invariant-loop-i
invariant-loop-i l = (l.t.count ≤ places) × (length l.bytes ≡ length l.initial.bytes) × (l.bytes ≡ closed_to l.initial.bytes l.i)
