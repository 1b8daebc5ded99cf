-- After i steps the first i bytes are in their places, and every other byte is as it was.
use mathlib.Core.Path.{◌≡◌}
use Prim.Native.Nat.{◌≤◌}
use lib.ListN.{length, take}
use Rattle.lent.specs.Over.{over}
use Rattle.lent.proofs.copy.Given as goal

abbrev pub invariant-loop-i : goal.invariant-loop-i
invariant-loop-i l = (l.i ≤ length l.from) × (length l.b ≡ length l.initial.b) × (l.b ≡ over l.initial.b l.at (take l.i l.from))
