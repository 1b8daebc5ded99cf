-- The normaliser (document 02, U7): what it returns of a table's lent bytes, and what they are then.
use Rattle.std.specs.Prelude.{true, false, List, ℕ, zero, suc, ◌+◌, eqb, get_or}
use Rattle.lent.specs.Bytes.{run}
use Rattle.lent.specs.Over.{over}
use Rattle.table.specs.declared.Refusal.{Refusal}
use Rattle.table.specs.Values.{entries_of}
use Rattle.reader.specs.Format.{record_at, record_start, read_fault_by}
use Rattle.closure.specs.Closure.{closed}

-- the refusal: that of a reader which knows no 24
abbrev pub normalise_fault : List ℕ → Refusal
normalise_fault b = read_fault_by false b

-- the bytes with the m entries of each of the first i records replaced, two bytes each from byte 12 of the record on; every other byte is as it was
unfoldable pub closed_to : List ℕ → ℕ → List ℕ
closed_to b zero = b
closed_to b (suc i) = over (closed_to b i) (record_start i + 12) (run 2 (closed (entries_of (record_at b (record_start i)))))

-- the lent bytes then: at a refusal as they were
unfoldable pub normalised : List ℕ → List ℕ
normalised b = elim (eqb (normalise_fault b).number 0) [ true ↦ closed_to b (get_or b 1 0) | false ↦ b ]
