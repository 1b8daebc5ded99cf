-- A table's bytes and the reader (document 01, 'The callback table' and 'Where each refusal is tested').
-- header_fields, record_fields: the fields of a header and of a record in their order. record_at, table_at: the values that bytes hold.
-- header_clear: the header's spare bytes are zero. spare_at, spares_at: records with one that is not. read_fault, Reading, read_of: the reader.
-- whole_by, read_fault_by, read_by: the same with 24 tested or not, since the program of document 02's U7 reads tables as before it.
use Rattle.std.specs.Prelude.{Bool, true, false, cond, not, ◌&&◌, List, [], ◌∷◌, ℕ, ◌+◌, ◌*◌, eqb, ltb, length, get_or}
use Rattle.numbers.specs.Numbers.{header_length, record_length, short_header, wrong_length}
use Rattle.masks.specs.Mask.{gather}
use Rattle.lent.specs.Bytes.{zeros, Field, field, fields_at}
use Rattle.table.specs.declared.Callback.{Callback}
use Rattle.table.specs.declared.Refusal.{Refusal}
use Rattle.table.specs.declared.Table.{Table}
use Rattle.table.specs.Values.{refuse, or_else, callback_of, table_of, placed, blank_table}
use Rattle.rules.specs.Rules.{head_fault, body_by}

-- edition and count; Q, P, H and Z; six spare bytes
abbrev pub header_fields : List Field
header_fields = field 1 2 ∷ field 2 4 ∷ field 1 6 ∷ []

-- kind, next and m; a spare byte; T, J and d; two spare bytes; the eight entries; four spare bytes
abbrev pub record_fields : List Field
record_fields = field 1 3 ∷ field 1 1 ∷ field 2 3 ∷ field 1 2 ∷ field 2 8 ∷ field 1 4 ∷ []

-- the numbers of a field, by its place in the list
abbrev pub field_of : List (List ℕ) → ℕ → List ℕ
field_of vs i = get_or vs i []

-- the record from byte k on
unfoldable pub record_at : List ℕ → ℕ → Callback
record_at b k = let vs : List (List ℕ) = fields_at record_fields b k 0 in callback_of (field_of vs 0) (field_of vs 2) (field_of vs 4)

-- whether a spare byte of that record is not zero
unfoldable pub spare_at : List ℕ → ℕ → Bool
spare_at b k = not (zeros b (k + 3) 1 && (zeros b (k + 10) 2 && zeros b (k + 28) 4))

-- whether the header's spare bytes, from byte 10 on (document 02, U2), are zero
abbrev pub header_clear : List ℕ → Bool
header_clear b = zeros b 10 6

-- where the record of a slot begins
abbrev pub record_start : ℕ → ℕ
record_start i = header_length + record_length * i

-- the first n records, in sixteen places
abbrev pub records_to : List ℕ → ℕ → List Callback
records_to b n = placed (λ i. record_at b (record_start i)) n

-- the values that the bytes hold: the header, then the records
unfoldable pub table_at : List ℕ → Table
table_at b = let vs : List (List ℕ) = fields_at header_fields b 0 0 in table_of (field_of vs 0) (field_of vs 1) (records_to b (get_or b 1 0))

-- the records with a spare byte not zero
unfoldable pub spares_at : List ℕ → ℕ
spares_at b = gather (λ i. spare_at b (record_start i)) (get_or b 1 0)

-- 4, then 5 to 14, 22 and 24
unfoldable pub whole_by : Bool → List ℕ → Refusal
whole_by sums b =
    cond (not (eqb (length b) (record_start (get_or b 1 0)))) (refuse wrong_length 0) (body_by sums (not (header_clear b)) (spares_at b) (table_at b))

-- the refusal of a table's bytes, 1 to 14, 22 and 24 in their order; `sums` says that 24 is tested
unfoldable pub read_fault_by : Bool → List ℕ → Refusal
read_fault_by sums b =
    elim (ltb (length b) header_length) [
      | true ↦ refuse short_header 0
      | false ↦ or_else (head_fault (get_or b 0 0) (get_or b 1 0)) (whole_by sums b)
    ]

abbrev pub read_fault : List ℕ → Refusal
read_fault = read_fault_by true

-- a reading: the table, or a refusal beside a blank one
pub record Reading : Type 0 where
  pub refusal : Refusal
  pub table : Table

-- a refusal beside a blank table
abbrev pub refused_reading : Refusal → Reading
refused_reading r = record { refusal = r; table = blank_table }

-- the reader: the table, or the refusal beside a blank table
unfoldable pub read_by : Bool → List ℕ → Reading
read_by sums b =
    elim (eqb (read_fault_by sums b).number 0) [
      | true ↦ record { refusal = read_fault_by sums b; table = table_at b }
      | false ↦ refused_reading (read_fault_by sums b)
    ]

abbrev pub read_of : List ℕ → Reading
read_of = read_by true
