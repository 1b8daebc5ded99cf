-- What the bytes passed so far give together is zero where each of them is.
use mathlib.Core.Path.{◌≡◌}
use Prim.Native.Nat.{◌≤◌, ◌-◌}
use lib.Dec.{eqb}
use Rattle.lent.specs.Bytes.{zeros}
use Rattle.lent.proofs.all_zero.Given as goal

abbrev pub invariant-loop-i : goal.invariant-loop-i
invariant-loop-i l = (l.i - l.from ≤ l.to - l.from) × (eqb l.any 0 ≡ zeros l.b l.from (l.i - l.from))
