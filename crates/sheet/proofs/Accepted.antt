-- What an accepted analysis says of the table, its window and the row. Assumes nothing.
-- Of a table with sheet_fault number 0: some_window, few_arrivals. Of bytes and a row with analysis_fault number 0:
-- analysed_read, analysed_sheet: neither the reader nor the table's sheet refuses. analysed_at: the row holds the bounds.
use mathlib.Core.Path.{◌≡◌, sym, ap, ◌∙◌}
use mathlib.Core.Logic.{◌⊎◌, inl, inr, ◌≢◌}
use mathlib.Core.Bool.{true}
use mathlib.Core.List.{List}
use Prim.Native.Nat.{ℕ, zero, suc, ◌≤◌, ◌<◌}
use native.Mathlib.Omega.{arith}
use lib.ListN.{length, get_or}
use borrow.Author.Tests.{eq-eqb, lt-ltb}
use Rattle.ranges.proofs.SumLaws.{le_or_lt}
use Rattle.ranges.proofs.LeastLaws.{lowest-none}
use Rattle.ranges.proofs.EveryLaws.{never_both}
use Rattle.table.specs.declared.Refusal.{Refusal}
use Rattle.table.specs.declared.Table.{Table}
use Rattle.numbers.specs.Numbers.{places, no_window, too_many, short_row, most_waiting}
use Rattle.table.specs.Values.{refuse, accepted, or_else, lowest_refused}
use Rattle.table.specs.Links.{is_head}
use Rattle.reader.specs.Format.{table_at, read_fault}
use Rattle.sheet.specs.Sheet.{too_many_at, sheet_fault, analysis_fault, row_of}
use Rattle.sheet.proofs.RowLaws.{row_at}
use Rattle.sheet.proofs.RefusalLaws.{row_first, reader_first}
use Rattle.table.proofs.RefusalLaws.{both_passed, lowest_zero}
use Rattle.windows.specs.Bounds.{arrivals_of, window_of}
use Rattle.levels.specs.Levels.{bound_of}
use Rattle.sheet.proofs.CrowdedLaws.{crowded}

-- ---- a table's sheet

module _ (t : Table) (ok : (sheet_fault t).number ≡ 0) where
  neither : (window_of t ≢ 0) × (too_many_at t (window_of t) ≡ 0)
  unfolding sheet_fault
  neither = go (window_of t) ok
    where
      go : (w : ℕ) → (elim w as (λ _. Refusal) [ zero ↦ refuse no_window 0 | suc w ↦ lowest_refused too_many (too_many_at t (suc w)) accepted ]).number ≡ 0
          → (w ≢ 0) × (too_many_at t w ≡ 0)
      go zero e = absurd (omega arith)
      go (suc w) e = (omega arith, (lowest_zero too_many (too_many_at t (suc w)) accepted (λ z. omega arith) e).0)

  pub some_window : window_of t ≢ 0
  some_window = neither.0

  -- no head activates more than 255 times within the window
  pub few_arrivals : (i : ℕ) → i < t.count → is_head t i ≡ true → arrivals_of t i (window_of t) ≤ most_waiting
  unfolding too_many_at
  few_arrivals i l e = go (le_or_lt (arrivals_of t i (window_of t)) most_waiting)
    where
      go : (arrivals_of t i (window_of t) ≤ most_waiting) ⊎ (most_waiting < arrivals_of t i (window_of t)) → arrivals_of t i (window_of t) ≤ most_waiting
      go (inl h) = h
      go (inr h) = absurd (never_both (crowded t (window_of t) i) (rw (e, lt-ltb most_waiting (arrivals_of t i (window_of t)) h))
          (lowest-none (crowded t (window_of t)) t.count neither.1 i l))

-- ---- bytes and a row

module _ (b : List ℕ) (k : ℕ) (ok : (analysis_fault b k).number ≡ 0) where
  none : (or_else (read_fault b) (sheet_fault (table_at b))).number ≡ 0
  none = go (le_or_lt places k)
    where
      go : (places ≤ k) ⊎ (k < places) → (or_else (read_fault b) (sheet_fault (table_at b))).number ≡ 0
      go (inl l) = ap (λ (r : Refusal). r.number) (sym (reader_first b k l)) ∙ ok
      go (inr l) = absurd (let z : short_row ≡ 0 = ap (λ (r : Refusal). r.number) (sym (row_first b k l)) ∙ ok in omega arith)

  pub analysed_read : (read_fault b).number ≡ 0
  analysed_read = (both_passed (read_fault b) (sheet_fault (table_at b)) none).0

  pub analysed_sheet : (sheet_fault (table_at b)).number ≡ 0
  analysed_sheet = (both_passed (read_fault b) (sheet_fault (table_at b)) none).1

-- the reported bound of a callback: what the analyser wrote into its place of the row
pub analysed_at : (b row : List ℕ) → (analysis_fault b (length row)).number ≡ 0 → (i : ℕ) → i < (table_at b).count → get_or (row_of b row) i 0 ≡ bound_of (table_at b) i
unfolding row_of
analysed_at b row ok i l = rw (eq-eqb (analysis_fault b (length row)).number 0 ok, row_of) (row_at (table_at b) row (table_at b).count i l)
