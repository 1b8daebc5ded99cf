-- The analyser's refusals in their order: what each test leads to.
-- Of a table: fault_none (15), fault_crowded (16), fault_passed; fault_accepted: refusal 0 names nobody; by_fault, by_none: the result and the row.
-- Of bytes and a row: row_first, reader_first (the order), short_row_lem (17), misread (the reader's), well_read (what the table gives); told_lem: the sheet told.
use mathlib.Core.Path.{◌≡◌, refl, sym, ap, ◌∙◌}
use mathlib.Core.Logic.{◌⊎◌, inl, inr, ◌≢◌}
use mathlib.Core.Bool.{Bool, true, false}
use mathlib.Core.List.{List}
use Prim.Native.Nat.{ℕ, zero, suc, ◌≤◌, ◌<◌}
use native.Mathlib.Decide.{ℕ_discrete}
use native.Mathlib.Omega.{arith}
use lib.Dec.{eqb}
use lib.ListN.{length}
use borrow.Author.Tests.{ne_eqb, lt-ltb, le-ltb}
use Rattle.std.proofs.Common.{Result, Ok, Err}
use Rattle.ranges.proofs.SumLaws.{le_or_lt}
use Rattle.lent.specs.Over.{over}
use Rattle.table.specs.declared.Refusal.{Refusal}
use Rattle.table.specs.declared.Table.{Table}
use Rattle.numbers.specs.Numbers.{places, no_window, too_many, short_row}
use Rattle.table.specs.Values.{refuse, accepted, or_else, unless, lowest_refused}
use Rattle.table.proofs.RefusalLaws.{refused, first_refused, first_passed, both_passed}
use Rattle.reader.specs.Format.{table_at, read_fault}
use Rattle.sheet.specs.declared.Sheet.{Sheet}
use Rattle.sheet.specs.Sheet.{too_many_at, sheet_fault, analysis_fault, sheet_of, bounds_to, row_of}
use Rattle.sheet.specs.Parts.{told, table_row}
use Rattle.windows.specs.Bounds.{window_of}

-- a result and a row, as the definitions have them
abbrev Outcome : Result ℕ Refusal → List ℕ → Result ℕ Refusal → List ℕ → Type 0
Outcome r row r' row' = (r ≡ r') × (row ≡ row')

-- the row: written where nothing is refused, else as it was
abbrev row_by : List ℕ → List ℕ → Refusal → List ℕ
row_by new row r = elim (eqb r.number 0) [ true ↦ new | false ↦ row ]

kept_by : (new row : List ℕ) (r : Refusal) → r.number ≢ 0 → row_by new row r ≡ row
kept_by new row r p = ap (λ (b : Bool). elim b [ true ↦ new | false ↦ row ]) (ne_eqb r.number 0 p)

module _ (t : Table) where
  pub fault_none : window_of t ≡ 0 → sheet_fault t ≡ refuse no_window 0
  unfolding sheet_fault
  fault_none e = rw (e, sheet_fault)

  fault_of_lem : (w : ℕ) → window_of t ≡ suc w → sheet_fault t ≡ lowest_refused too_many (too_many_at t (suc w)) accepted
  unfolding sheet_fault
  fault_of_lem w e = rw (e, sheet_fault)

  pub fault_crowded : (k : ℕ) → window_of t ≢ 0 → too_many_at t (window_of t) ≡ k → k ≢ 0 → sheet_fault t ≡ refuse too_many k
  fault_crowded k p e q = go (window_of t) refl k e q
    where
      go : (w : ℕ) → window_of t ≡ w → (k : ℕ) → too_many_at t (window_of t) ≡ k → k ≢ 0 → sheet_fault t ≡ refuse too_many k
      go zero f k e q = absurd (p f)
      go (suc w) f zero e q = absurd (q refl)
      go (suc w) f (suc k) e q = fault_of_lem w f ∙ ap (λ (x : ℕ). lowest_refused too_many x accepted) (ap (too_many_at t) (sym f) ∙ e)

  pub fault_passed : window_of t ≢ 0 → too_many_at t (window_of t) ≡ 0 → sheet_fault t ≡ accepted
  fault_passed p e = go (window_of t) refl
    where
      go : (w : ℕ) → window_of t ≡ w → sheet_fault t ≡ accepted
      go zero f = absurd (p f)
      go (suc w) f = fault_of_lem w f ∙ ap (λ (x : ℕ). lowest_refused too_many x accepted) (ap (too_many_at t) (sym f) ∙ e)

  pub fault_accepted : (sheet_fault t).number ≡ 0 → sheet_fault t ≡ accepted
  unfolding sheet_fault
  fault_accepted ok = go (window_of t) ok
    where
      found : (x : ℕ) → (lowest_refused too_many x accepted).number ≡ 0 → lowest_refused too_many x accepted ≡ accepted
      found zero e = refl
      found (suc x) e = absurd (omega arith)

      go : (w : ℕ) → (elim w as (λ _. Refusal) [ zero ↦ refuse no_window 0 | suc w ↦ lowest_refused too_many (too_many_at t (suc w)) accepted ]).number ≡ 0
          → elim w as (λ _. Refusal) [ zero ↦ refuse no_window 0 | suc w ↦ lowest_refused too_many (too_many_at t (suc w)) accepted ] ≡ accepted
      go zero e = absurd (omega arith)
      go (suc w) e = found (too_many_at t (suc w)) e

  -- a refusal is the result, and keeps the row
  pub by_fault : (row : List ℕ) (r : Refusal) → sheet_fault t ≡ r → r.number ≢ 0 → Outcome (Err r) row (unless (sheet_fault t) (window_of t)) (table_row t row)
  unfolding table_row
  by_fault row r e p = (
    sym (ap (λ (q : Refusal). unless q (window_of t)) e ∙ refused r (window_of t) p),
    sym (ap (row_by (over row 0 (bounds_to t t.count)) row) e ∙ kept_by (over row 0 (bounds_to t t.count)) row r p),
  )

  -- where there is none, the window is, and the bounds are written
  pub by_none : (row : List ℕ) → sheet_fault t ≡ accepted → Outcome (Ok (window_of t)) (over row 0 (bounds_to t t.count)) (unless (sheet_fault t) (window_of t)) (table_row t row)
  unfolding table_row
  by_none row e = (
    sym (ap (λ (q : Refusal). unless q (window_of t)) e),
    sym (ap (row_by (over row 0 (bounds_to t t.count)) row) e),
  )

-- 17 before anything else, then the reader's numbers, then 15 and 16
module _ (b : List ℕ) (k : ℕ) where
  pub row_first : k < places → analysis_fault b k ≡ refuse short_row 0
  unfolding analysis_fault
  row_first l = rw (lt-ltb k places l, analysis_fault)

  pub reader_first : places ≤ k → analysis_fault b k ≡ or_else (read_fault b) (sheet_fault (table_at b))
  unfolding analysis_fault
  reader_first l = rw (le-ltb k places l, analysis_fault)

module _ (b row : List ℕ) where
  abbrev window : ℕ
  window = window_of (table_at b)

  -- the row with the bounds of the table that the bytes hold
  abbrev new : List ℕ
  new = over row 0 (bounds_to (table_at b) (table_at b).count)

  by_analysis : (r : Refusal) → analysis_fault b (length row) ≡ r → r.number ≢ 0 → Outcome (Err r) row (unless (analysis_fault b (length row)) window) (row_of b row)
  unfolding row_of
  by_analysis r e p = (sym (ap (λ (q : Refusal). unless q window) e ∙ refused r window p), sym (ap (row_by new row) e ∙ kept_by new row r p))

  pub short_row_lem : length row < places → Outcome (Err (refuse short_row 0)) row (unless (analysis_fault b (length row)) window) (row_of b row)
  short_row_lem l = by_analysis (refuse short_row 0) (row_first b (length row) l) (λ z. omega arith)

  pub misread : places ≤ length row → (read_fault b).number ≢ 0 → Outcome (Err (read_fault b)) row (unless (analysis_fault b (length row)) window) (row_of b row)
  misread l p = by_analysis (read_fault b) (reader_first b (length row) l ∙ first_refused (read_fault b) (sheet_fault (table_at b)) p) p

  pub well_read : places ≤ length row → (read_fault b).number ≡ 0
      → Outcome (unless (sheet_fault (table_at b)) window) (table_row (table_at b) row) (unless (analysis_fault b (length row)) window) (row_of b row)
  unfolding row_of table_row
  well_read l e = (sym (ap (λ (q : Refusal). unless q window) same), sym (ap (row_by new row) same))
    where
      same : analysis_fault b (length row) ≡ sheet_fault (table_at b)
      same = reader_first b (length row) l ∙ first_passed (read_fault b) (sheet_fault (table_at b)) e

-- what is told of the result is the sheet: refusal 0 names nobody
module _ (b : List ℕ) (k : ℕ) where
  analysis_accepted : (analysis_fault b k).number ≡ 0 → analysis_fault b k ≡ accepted
  analysis_accepted ok = go (le_or_lt places k)
    where
      go : (places ≤ k) ⊎ (k < places) → analysis_fault b k ≡ accepted
      go (inl l) =
          let e = reader_first b k l in
          let both = both_passed (read_fault b) (sheet_fault (table_at b)) (ap (λ (r : Refusal). r.number) (sym e) ∙ ok) in
          e ∙ first_passed (read_fault b) (sheet_fault (table_at b)) both.0 ∙ fault_accepted (table_at b) both.1
      go (inr l) = absurd (let z : short_row ≡ 0 = ap (λ (r : Refusal). r.number) (sym (row_first b k l)) ∙ ok in omega arith)

  abbrev sheet_by : Refusal → Sheet
  sheet_by r = elim (eqb r.number 0) [ true ↦ record { window = window_of (table_at b); refusal = r } | false ↦ record { window = 0; refusal = r } ]

  pub told_lem : told (unless (analysis_fault b k) (window_of (table_at b))) ≡ sheet_of b k
  unfolding sheet_of
  told_lem = go (ℕ_discrete (analysis_fault b k).number 0)
    where
      go : Dec ((analysis_fault b k).number ≡ 0) → told (unless (analysis_fault b k) (window_of (table_at b))) ≡ sheet_by (analysis_fault b k)
      go (yes e) = let f = analysis_accepted e in ap (λ (q : Refusal). told (unless q (window_of (table_at b)))) f ∙ sym (ap sheet_by f)
      go (no n) =
          ap told (refused (analysis_fault b k) (window_of (table_at b)) n)
          ∙ sym (ap (λ (x : Bool). elim x as (λ _. Sheet) [ true ↦ record { window = window_of (table_at b); refusal = analysis_fault b k } | false ↦ record { window = 0; refusal = analysis_fault b k } ])
          (ne_eqb (analysis_fault b k).number 0 n))
