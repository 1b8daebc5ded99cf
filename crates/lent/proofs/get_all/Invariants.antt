-- After i steps the first i numbers are those that the bytes hold.
use mathlib.Core.Path.{◌≡◌}
use lib.ListN.{length, take}
use Rattle.std.specs.Prelude.{map}
use Rattle.lent.specs.Bytes.{numbers}
use Rattle.lent.proofs.get_all.Given as goal

abbrev pub invariant-loop-i : goal.invariant-loop-i
invariant-loop-i g l =
    let n = g.T.Number in
    (length l.all ≡ g.row.N) × (take l.i (map n.value l.all) ≡ numbers n.WIDTH l.b l.at 0 l.i)
