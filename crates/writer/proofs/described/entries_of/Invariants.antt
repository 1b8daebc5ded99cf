-- After i steps the first i entries are those that the numbers hold.
use mathlib.Core.Path.{◌≡◌}
use lib.ListN.{length, take}
use Rattle.lent.specs.Bytes.{numbers}
use Rattle.writer.proofs.described.entries_of.Given as goal

abbrev pub invariant-loop-i : goal.invariant-loop-i
invariant-loop-i l = (length l.entries ≡ 8) × (take l.i l.entries ≡ numbers 1 l.numbers l.at 6 l.i)
