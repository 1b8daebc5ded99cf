-- The sheet of a table, the analyser's refusals and the lent row (document 01, 'The sheet').
use Rattle.std.specs.Prelude.{true, false, ◌&&◌, List, [], ◌∷◌, ◌++◌, ℕ, zero, suc, eqb, ltb, length}
use Rattle.lent.specs.Over.{over}
use Rattle.ranges.specs.Least.{lowest}
use Rattle.table.specs.declared.Refusal.{Refusal}
use Rattle.table.specs.declared.Table.{Table}
use Rattle.numbers.specs.Numbers.{places, most_waiting, no_window, too_many, short_row}
use Rattle.table.specs.Values.{refuse, accepted, or_else, lowest_refused}
use Rattle.table.specs.Links.{is_head}
use Rattle.reader.specs.Format.{table_at, read_fault}
use Rattle.sheet.specs.declared.Sheet.{Sheet}
use Rattle.windows.specs.Bounds.{arrivals_of, window_of}
use Rattle.levels.specs.Levels.{bound_of}

-- row 16: the lowest head with more activations in the window than a count holds
unfoldable pub too_many_at : Table → ℕ → ℕ
too_many_at t w = lowest (λ i. is_head t i && ltb most_waiting (arrivals_of t i w)) t.count

-- rows 15 and 16 of the table of refusals, in their order
unfoldable pub sheet_fault : Table → Refusal
sheet_fault t = elim (window_of t) [ zero ↦ refuse no_window 0 | suc w ↦ lowest_refused too_many (too_many_at t (suc w)) accepted ]

-- the analyser's refusal of a table's bytes and a row of some places: row 17, then the reader's, then those of the sheet
unfoldable pub analysis_fault : List ℕ → ℕ → Refusal
analysis_fault b row =
    elim (ltb row places) [
      | true ↦ refuse short_row 0
      | false ↦ or_else (read_fault b) (sheet_fault (table_at b))
    ]

-- 'The sheet', what is returned: the window and refusal 0, or no window and the refusal
unfoldable pub sheet_of : List ℕ → ℕ → Sheet
sheet_of b row =
    let r : Refusal = analysis_fault b row in
    elim (eqb r.number 0) [ true ↦ record { window = window_of (table_at b); refusal = r } | false ↦ record { window = 0; refusal = r } ]

-- the bounds of the first i slots
unfoldable pub bounds_to : Table → ℕ → List ℕ
bounds_to t zero = []
bounds_to t (suc i) = bounds_to t i ++ (bound_of t i ∷ [])

-- 'The sheet', the lent row: a bound for each callback in the places of their slots, the rest as it was; at a refusal all of it
unfoldable pub row_of : List ℕ → List ℕ → List ℕ
row_of b row =
    elim (eqb (analysis_fault b (length row)).number 0) [
      | true ↦ over row 0 (bounds_to (table_at b) (table_at b).count)
      | false ↦ row
    ]
