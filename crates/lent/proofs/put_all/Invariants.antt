-- After i steps the first i numbers are in their places, and every other byte is as it was.
use mathlib.Core.Path.{◌≡◌}
use Prim.Native.Nat.{◌≤◌}
use lib.ListN.{length, take}
use Rattle.std.specs.Prelude.{map}
use Rattle.lent.specs.Bytes.{run}
use Rattle.lent.specs.Over.{over}
use Rattle.lent.proofs.put_all.Given as goal

abbrev pub invariant-loop-i : goal.invariant-loop-i
invariant-loop-i g l =
    let n = g.T.Number in
    (l.i ≤ length l.xs) × (length l.b ≡ length l.initial.b) × (l.b ≡ over l.initial.b l.at (run n.WIDTH (take l.i (map n.value l.xs))))
