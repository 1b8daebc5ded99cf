-- The bytes of a table given as values (document 01, 'The callback table'): what the writer writes and the reader reads back.
use Rattle.std.specs.Prelude.{List, [], ◌∷◌, ◌++◌, ℕ, zero, suc, replicate}
use Rattle.lent.specs.Bytes.{field_bytes}
use Rattle.table.specs.declared.Callback.{Callback}
use Rattle.table.specs.declared.Table.{Table}
use Rattle.table.specs.Values.{callback_bytes, callback_ticks, table_bytes, table_ticks, callback_at}
use Rattle.reader.specs.Format.{header_fields, record_fields}

-- what stands in the fields of a header, and of a record
abbrev pub header_numbers : Table → List (List ℕ)
header_numbers t = table_bytes t ∷ table_ticks t ∷ replicate 6 0 ∷ []

abbrev pub record_numbers : Callback → List (List ℕ)
record_numbers c = callback_bytes c ∷ replicate 1 0 ∷ callback_ticks c ∷ replicate 2 0 ∷ c.entries ∷ replicate 4 0 ∷ []

-- a record in bytes
unfoldable pub record_bytes : Callback → List ℕ
record_bytes c = field_bytes record_fields (record_numbers c)

-- the records of the first i slots
unfoldable pub records_bytes : Table → ℕ → List ℕ
records_bytes t zero = []
records_bytes t (suc i) = records_bytes t i ++ record_bytes (callback_at t i)

-- the whole table, 16 + 32 × n bytes
unfoldable pub written : Table → List ℕ
written t = field_bytes header_fields (header_numbers t) ++ records_bytes t t.count
