-- The machine's state in lent bytes, little-endian (docs/STATE.md): the table's own bytes from byte 0 on, zero behind them up to the place
-- of sixteen records, and then the fields of the state around the table.
use Rattle.std.specs.Prelude.{Bool, not, ◌&&◌, List, [], ◌∷◌, ◌++◌, ℕ, ◌+◌, ◌-◌, eqb, length, get_or, take, replicate}
use Rattle.numbers.specs.Numbers.{places}
use Rattle.lent.specs.Bytes.{zeros, Field, field, size_of, fields_at, field_bytes}
use Rattle.table.specs.declared.Table.{Table}
use Rattle.reader.specs.Format.{field_of, record_start, read_fault, table_at}
use Rattle.reader.specs.Written.{written}
use Rattle.executor.specs.declared.Machine.{Machine}
use Rattle.executor.specs.State.{faulty}

-- spare bytes at the end
abbrev pub spare_bytes : ℕ
spare_bytes = 7

-- waiting counts; finished counts; ticks taken; cache; units left; what runs; spare bytes
abbrev pub tail_fields : List Field
tail_fields = field 2 places ∷ field 4 places ∷ field 4 1 ∷ field 2 1 ∷ field 2 1 ∷ field 1 1 ∷ field 1 spare_bytes ∷ []

-- where they begin, and how long a state is
abbrev pub tail_start : ℕ
tail_start = record_start places

abbrev pub state_length : ℕ
state_length = tail_start + size_of tail_fields

-- where the field of a number begins, the first having 0; the last one is spare
abbrev pub field_start : ℕ → ℕ
field_start k = tail_start + size_of (take k tail_fields)

abbrev pub spare_start : ℕ
spare_start = field_start 6

-- where the table's bytes end
abbrev pub table_end : List ℕ → ℕ
table_end b = record_start (get_or b 1 0)

-- the table's own bytes
abbrev pub table_part : List ℕ → List ℕ
table_part b = take (table_end b) b

-- whether the bytes are laid out as a state: the length, a table that the reader accepts, and zero in every byte that is not used
unfoldable pub laid_out : List ℕ → Bool
laid_out b =
    eqb (length b) state_length
    && (eqb (read_fault (table_part b)).number 0
    && (zeros b (table_end b) (tail_start - table_end b) && zeros b spare_start spare_bytes))

-- the numbers of the fields that bytes hold
abbrev pub tail_at : List ℕ → List (List ℕ)
tail_at b = fields_at tail_fields b tail_start 0

-- the state that such numbers are, around a table
abbrev pub machine_of : Table → List (List ℕ) → Machine
machine_of t vs =
    record {
      table = t;
      waiting = field_of vs 0;
      finished = field_of vs 1;
      clock = get_or (field_of vs 2) 0 0;
      cache = get_or (field_of vs 3) 0 0;
      units = get_or (field_of vs 4) 0 0;
      running = get_or (field_of vs 5) 0 0;
    }

-- the state that the bytes hold
unfoldable pub unpacked : List ℕ → Machine
unpacked b = machine_of (table_at (table_part b)) (tail_at b)

-- the numbers of a state, field by field
abbrev pub tail_numbers : Machine → List (List ℕ)
tail_numbers m =
    m.waiting ∷ m.finished ∷ (m.clock ∷ []) ∷ (m.cache ∷ []) ∷ (m.units ∷ []) ∷ (m.running ∷ []) ∷ replicate spare_bytes 0 ∷ []

-- their bytes
unfoldable pub packed_tail : Machine → List ℕ
packed_tail m = field_bytes tail_fields (tail_numbers m)

-- the state in bytes
unfoldable pub packed : Machine → List ℕ
packed m = written m.table ++ (replicate (tail_start - length (written m.table)) 0 ++ packed_tail m)

-- whether bytes hold a state: laid out as one, and without faults
unfoldable pub holds_state : List ℕ → Bool
holds_state b = laid_out b && not (faulty (unpacked b))
