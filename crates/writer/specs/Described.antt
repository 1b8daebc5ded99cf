-- A table by plain numbers, as hosts written in C hand it over (include/cuorfelt.h): those of the header, and fourteen for each record.
-- The numbers may be of any size: a rule refuses what has no place in a table.
use Rattle.std.specs.Prelude.{List, [], ◌∷◌, ℕ, ◌*◌}
use Rattle.numbers.specs.Numbers.{places}
use Rattle.lent.specs.Bytes.{Field, field, size_of, fields_at}
use Rattle.table.specs.declared.Callback.{Callback}
use Rattle.table.specs.declared.Table.{Table}
use Rattle.table.specs.Values.{callback_of, table_of, placed}
use Rattle.reader.specs.Format.{field_of}

-- kind, next and m; T, J and d; the eight entries: each of them one place of the list
abbrev pub described_fields : List Field
described_fields = field 1 3 ∷ field 1 3 ∷ field 1 8 ∷ []

-- fourteen numbers
abbrev pub record_size : ℕ
record_size = size_of described_fields

-- the record whose numbers begin at place k; a number that is not there reads as 0
unfoldable pub described_record : List ℕ → ℕ → Callback
described_record ns k = let vs : List (List ℕ) = fields_at described_fields ns k 0 in callback_of (field_of vs 0) (field_of vs 1) (field_of vs 2)

-- the table: edition and n; Q, P, H and Z; the records one behind the other
unfoldable pub described : List ℕ → List ℕ → List ℕ → Table
described bytes ticks ns = table_of bytes ticks (placed (λ i. described_record ns (record_size * i)) places)
