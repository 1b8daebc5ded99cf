-- What inner functions give: the beginning of a record's bytes, and a described table in the widths of its fields.
use Rattle.std.specs.Prelude.{cond, List, [], ◌∷◌, ℕ, ◌*◌, ltb, get_or, take}
use Rattle.numbers.specs.Numbers.{places}
use Rattle.lent.specs.Bytes.{field_bytes}
use Rattle.table.specs.declared.Callback.{Callback}
use Rattle.table.specs.declared.Table.{Table}
use Rattle.table.specs.Values.{callback_ticks, callback_of, table_of, placed}
use Rattle.reader.specs.Format.{record_fields}
use Rattle.reader.specs.Written.{record_numbers}
use Rattle.writer.specs.Described.{record_size, described_record}

-- a record's bytes up to its cost entries
abbrev pub record_front : Callback → List ℕ
record_front c = field_bytes (take 4 record_fields) (take 4 (record_numbers c))

-- a number for a byte, 255 where it is too wide
unfoldable pub narrow : ℕ → ℕ
narrow x = cond (ltb 255 x) 255 x

-- a record, a described one of a slot, and a described table, with kind, next and m, edition and n in a byte each
abbrev pub narrow_record : Callback → Callback
narrow_record c = callback_of (narrow c.kind ∷ narrow c.next ∷ narrow c.used ∷ []) (callback_ticks c) c.entries

abbrev pub narrow_slot : List ℕ → ℕ → Callback
narrow_slot ns i = narrow_record (described_record ns (record_size * i))

unfoldable pub narrow_table : List ℕ → List ℕ → List ℕ → Table
narrow_table bytes ticks ns = table_of (narrow (get_or bytes 0 0) ∷ narrow (get_or bytes 1 0) ∷ []) ticks (placed (narrow_slot ns) places)
