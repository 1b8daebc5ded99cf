-- Demand 3: the claim of specs/Claim.antt, proved.
-- Acceptance makes the table sound and its sheet cover every offset (Analysed); a history within the curves is then answered throughout,
-- no instance starts before its activation, and each completion comes within its bound (Conclusions).
use mathlib.Core.Path.{◌≡◌, sym, subst, ap}
use mathlib.Core.Logic.{◌⊎◌, inl, inr}
use mathlib.Core.Bool.{true}
use mathlib.Core.List.{List}
use Prim.Native.Nat.{ℕ, ◌≤◌, ◌<◌}
use lib.ListN.{length}
use Rattle.table.specs.declared.Table.{Table}
use Rattle.reader.specs.Format.{table_at, read_fault}
use Rattle.reader.proofs.Accepted.{read_table}
use Rattle.executor.specs.declared.Machine.{Machine}
use Rattle.numbers.specs.Numbers.{most_ticks}
use Rattle.executor.specs.State.{fresh}
use Rattle.executor.specs.Start.{start_of}
use Rattle.sheet.specs.Sheet.{analysis_fault, row_of}
use Rattle.sheet.proofs.Accepted.{analysed_read, analysed_at}
use Rattle.guarantee.specs.History.{Tick, results}
use Rattle.guarantee.specs.Within.{WithinCurves}
use Rattle.guarantee.specs.Claim.{Guaranteed, Guarantee}
use Rattle.guarantee.proofs.Analysed.{Analysed, analysed}
use Rattle.guarantee.proofs.Conclusions
use Rattle.windows.specs.Bounds.{bound_of_all}
use Rattle.levels.specs.Levels.{overtakes, bound_of_level, bound_of}
use Rattle.levels.proofs.LevelLaws.{bound_either}
use Rattle.guarantee.proofs.Timers

-- a start that is not refused gives the fresh state of the table
started_fresh : (b : List ℕ) → (read_fault b).number ≡ 0 → (start_of b).machine ≡ fresh (table_at b)
unfolding start_of
started_fresh b ok = ap fresh (read_table b ok)

guaranteed : (b row : List ℕ) (h : List Tick) → (analysis_fault b (length row)).number ≡ 0 → length h ≤ most_ticks
    → WithinCurves (table_at b) h (results (fresh (table_at b)) h) → Guaranteed (table_at b) (row_of b row) h (results (fresh (table_at b)) h)
guaranteed b row h f short w = record {
  answered = Conclusions.answers t an h short w;
  started = Conclusions.starts_late t an h short w;
  finished = λ i k v l x end. rw (analysed_at b row f i l) (Conclusions.in_time t an h short w i k v (bound_of t i) l (kept i l (bound_either t i)) x (rw (analysed_at b row f i l) at end));
}
  where
    t : Table
    t = table_at b

    an : Analysed (table_at b)
    an = analysed b (length row) f

    -- the number in the row is one of the two bounds
    kept : (i : ℕ) → i < t.count → (bound_of t i ≡ bound_of_all t i) ⊎ ((overtakes t i ≡ true) × (bound_of t i ≡ bound_of_level t i)) → Conclusions.Kept t an h short w i (bound_of t i)
    kept i l (inl e) = subst (Conclusions.Kept t an h short w i) (sym e) (Conclusions.kept_all t an h short w i (bound_of_all t i) l (an.covers i l))
    kept i l (inr e) = subst (Conclusions.Kept t an h short w i) (sym e.1) (Timers.kept_level t an h short w i l e.0)

pub guarantee : Guarantee
guarantee b row h f short =
    subst (λ (m : Machine). WithinCurves (table_at b) h (results m h) → Guaranteed (table_at b) (row_of b row) h (results m h))
    (sym (started_fresh b (analysed_read b (length row) f))) (guaranteed b row h f short)
