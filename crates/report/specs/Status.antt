-- The status with which a program ends, and that of one that prints a sheet.
use Rattle.std.specs.Prelude.{Bool, true, false, List, ◌≡◌, ℕ, eqb}
use Rattle.numbers.specs.Numbers.{places}
use Rattle.table.specs.declared.Refusal.{Refusal}
use Rattle.sheet.specs.Sheet.{sheet_of}
use Rattle.report.specs.declared.Printed.{Printed}

-- all that was asked for, a refusal, and input or output that failed
abbrev pub whole : ℕ
whole = 0

abbrev pub refused : ℕ
refused = 1

abbrev pub failed : ℕ
failed = 2

-- 0 only without a refusal and where all was written
unfoldable pub status_by : Bool → Refusal → ℕ
status_by w x = elim w [ false ↦ failed | true ↦ elim (eqb x.number 0) [ true ↦ whole | false ↦ refused ] ]

-- 0 only for a whole sheet that was all written
unfoldable pub status_of : Printed → ℕ
status_of p = status_by p.written p.sheet.refusal

-- what the program may end with after these bytes: 2 where a read failed behind them; else the status of what it printed, which is their
-- sheet. How much of that was written, only the system can tell.
unfoldable pub Ends : List ℕ → Bool → ℕ → Type 0
Ends b true r = r ≡ failed
Ends b false r = (p : Printed) × (p.sheet ≡ sheet_of b places) × (r ≡ status_of p)
