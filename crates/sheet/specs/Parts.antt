-- What the analyser's inner functions compute: the test of 16 for one slot, and what becomes of a table that the reader accepts.
use Rattle.std.specs.Prelude.{Bool, true, false, ◌&&◌, List, ℕ, eqb, ltb, Result, Ok, Err}
use Rattle.numbers.specs.Numbers.{most_waiting}
use Rattle.lent.specs.Over.{over}
use Rattle.table.specs.declared.Callback.{Callback}
use Rattle.table.specs.declared.Refusal.{Refusal}
use Rattle.table.specs.declared.Table.{Table}
use Rattle.table.specs.Values.{accepted}
use Rattle.windows.specs.Parts.{head_arrivals}
use Rattle.sheet.specs.declared.Sheet.{Sheet}
use Rattle.sheet.specs.Sheet.{sheet_fault, bounds_to}

-- whether a slot is its own head and its a(w) above 255
unfoldable pub crowded_by : Callback → ℕ → ℕ → ℕ → Bool
crowded_by c slot head w = eqb head slot && ltb most_waiting (head_arrivals c w)

-- the sheet that a host gets for a window, or for a refusal
abbrev pub told : Result ℕ Refusal → Sheet
told (Ok w) = record { window = w; refusal = accepted }
told (Err r) = record { window = 0; refusal = r }

-- the row of a table that the reader accepts: the bounds, unless 15 or 16 is refused
unfoldable pub table_row : Table → List ℕ → List ℕ
table_row t row = elim (eqb (sheet_fault t).number 0) [ true ↦ over row 0 (bounds_to t t.count) | false ↦ row ]
