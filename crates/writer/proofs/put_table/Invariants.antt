-- After i steps the first i records are in their places behind the header, and every other byte is as it was.
use mathlib.Core.Path.{◌≡◌}
use Prim.Native.Nat.{◌*◌}
use lib.ListN.{length}
use Rattle.numbers.specs.Numbers.{header_length, record_length}
use Rattle.lent.specs.Over.{over}
use Rattle.reader.specs.Written.{records_bytes}
use Rattle.writer.proofs.put_table.Given as goal

abbrev pub invariant-loop-i : goal.invariant-loop-i
invariant-loop-i l = (length l.b ≡ length l.initial.b) × (length (records_bytes l.t l.i) ≡ record_length * l.i) × (l.b ≡ over l.initial.b header_length (records_bytes l.t l.i))
