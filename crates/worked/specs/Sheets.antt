-- The tables of document 01's worked cases, and the numbers of their sheets, read from the tables' bytes as the analyser reads them.
-- What a case leaves out has the value that the section states for it: edition 1, kind 2, and 0 for H, Z, J and next; full supply is Q = P = 1.
use Rattle.std.specs.Prelude.{List, [], ◌∷◌, ◌++◌, ℕ, ◌-◌, length, take, replicate}
use Rattle.table.specs.declared.Callback.{Callback}
use Rattle.table.specs.declared.Table.{Table}
use Rattle.numbers.specs.Numbers.{places, entry_places, edition_one}
use Rattle.table.specs.Values.{callback_of, table_of}
use Rattle.reader.specs.Written.{written}
use Rattle.sheet.specs.declared.Sheet.{Sheet}
use Rattle.sheet.specs.Sheet.{sheet_of, row_of}
use Rattle.windows.specs.Bounds.{arrivals_of, window_of}

-- a callback of a kind with T, J, d and its entries, that ends its chain
abbrev pub of_kind : ℕ → ℕ → ℕ → ℕ → List ℕ → Callback
of_kind k T J d es = callback_of (k ∷ 0 ∷ length es ∷ []) (T ∷ J ∷ d ∷ []) (es ++ replicate (entry_places - length es) 0)

abbrev pub timer : ℕ → ℕ → ℕ → List ℕ → Callback
timer = of_kind 1

abbrev pub callback : ℕ → ℕ → ℕ → List ℕ → Callback
callback = of_kind 2

-- a table with Q, P and its callbacks
abbrev pub of_supply : ℕ → ℕ → List Callback → Table
of_supply Q p cs = table_of (edition_one ∷ length cs ∷ []) (Q ∷ p ∷ 0 ∷ 0 ∷ []) cs

abbrev pub full_supply : List Callback → Table
full_supply = of_supply 1 1

-- the window and the refusal's number and index
abbrev pub numbers : Sheet → List ℕ
numbers s = s.window ∷ s.refusal.number ∷ s.refusal.index ∷ []

-- what the analyser returns for the bytes of a table: the window, 0 where it refuses, and the refusal's number and index, 0 and 0 where it accepts
abbrev pub sheet : Table → List ℕ
sheet t = numbers (sheet_of (written t) places)

-- and what it writes into places 1 to n of a row
abbrev pub bounds : Table → List ℕ
bounds t = take t.count (row_of (written t) (replicate places 0))

-- a(W) of the first callback
abbrev pub arrivals_in_window : Table → List ℕ
arrivals_in_window t = arrivals_of t 0 (window_of t) ∷ []
