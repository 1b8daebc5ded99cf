-- The writer (document 02, U4): what writing a table's values gives, and what the lent buffer holds then, for every table and every buffer.
-- The bytes of a table are `written` of the reader's definitions.
use Rattle.std.specs.Prelude.{true, false, cond, List, ℕ, eqb, ltb, length}
use Rattle.numbers.specs.Numbers.{short_buffer}
use Rattle.lent.specs.Over.{over}
use Rattle.table.specs.declared.Refusal.{Refusal}
use Rattle.table.specs.declared.Table.{Table}
use Rattle.table.specs.Values.{refuse, accepted, or_else, with_callbacks, placed, callback_at}
use Rattle.rules.specs.Rules.{fault_of}
use Rattle.reader.specs.Format.{record_start}
use Rattle.reader.specs.Written.{written}
use Rattle.writer.specs.declared.Written.{Written}

-- 2 to 14 and 22 over the values, as the reader has them; then 23, a buffer of `room` bytes that is shorter than the table
unfoldable pub write_fault : Table → ℕ → Refusal
write_fault t room = or_else (fault_of t) (cond (ltb room (record_start t.count)) (refuse short_buffer 0) accepted)

-- a refusal: no length
abbrev pub refused_writing : Refusal → Written
refused_writing r = record { length = 0; number = r.number; index = r.index }

-- what writing gives: the table's length, 16 + 32 × n, or the refusal
unfoldable pub write_of : Table → ℕ → Written
write_of t room =
    elim (eqb (write_fault t room).number 0) [
      | true ↦ record { length = record_start t.count; number = 0; index = 0 }
      | false ↦ refused_writing (write_fault t room)
    ]

-- the buffer then: the table's bytes and behind them what was there, or as it was
unfoldable pub buffer_after : Table → List ℕ → List ℕ
buffer_after t b = elim (eqb (write_fault t (length b)).number 0) [ true ↦ over b 0 (written t) | false ↦ b ]

-- the values that are written, as the reader gives them back: the header's numbers and the first n records, blank places beyond them
abbrev pub first_records : Table → Table
first_records t = with_callbacks t (placed (callback_at t) t.count)
