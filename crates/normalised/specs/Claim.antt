-- What holds of every table that the normaliser takes (document 02, U7).
use Rattle.std.specs.Prelude.{◌≡◌, ◌⊎◌, ◌≢◌, List, ℕ, ◌+◌, ◌*◌, ◌≤◌, ◌<◌, length, get_or}
use Rattle.numbers.specs.Numbers.{places, most_ticks}
use Rattle.curves.specs.Cost.{entry}
use Rattle.table.specs.Values.{accepted, callback_at, entries_of}
use Rattle.reader.specs.Format.{record_start, table_at, read_fault}
use Rattle.windows.specs.Bounds.{cost_of, window_of}
use Rattle.levels.specs.Levels.{bound_of}
use Rattle.sheet.specs.Sheet.{sheet_fault, analysis_fault, row_of}
use Rattle.executor.specs.Start.{start_of}
use Rattle.guarantee.specs.History.{Tick, Result, results}
use Rattle.guarantee.specs.Within.{WithinCurves}
use Rattle.guarantee.specs.Claim.{Guaranteed}
use Rattle.closure.specs.Split.{LeastSum}
use Rattle.normaliser.specs.Normaliser.{normalise_fault, normalised}

pub record Normalised (b : List ℕ) : Type 0 where
  -- what is written reads: 10 and 24 pass, and so does every other rule
  pub reads : read_fault (normalised b) ≡ accepted
  -- each of the m entries is the least sum over all ways to split its position
  pub least : (i k : ℕ) → i < (table_at b).count → k ≤ (callback_at (table_at b) i).used
      → LeastSum (entries_of (callback_at (table_at b) i)) k (entry (entries_of (callback_at (table_at (normalised b)) i)) k)
  -- a byte that is none of these entries is as it was
  pub others : (k : ℕ) → ((i : ℕ) → i < (table_at b).count → (k < record_start i + 12) ⊎ (record_start i + 12 + 2 * (callback_at (table_at b) i).used ≤ k))
      → get_or (normalised b) k 0 ≡ get_or b k 0
  -- a table without fault 24 is written back byte by byte, and so a second run changes nothing
  pub kept : (read_fault b).number ≡ 0 → normalised b ≡ b
  pub again : normalised (normalised b) ≡ normalised b
  -- E is nowhere above what it was
  pub costs : (i n : ℕ) → i < (table_at b).count → cost_of (table_at (normalised b)) i n ≤ cost_of (table_at b) i n
  -- a history within the old curves is within the new ones
  pub within : (h : List Tick) (r : List Result) → WithinCurves (table_at b) h r → WithinCurves (table_at (normalised b)) h r
  -- no window and no bound grows, the second bound of timers included
  pub window : window_of (table_at b) ≢ 0 → (0 < window_of (table_at (normalised b))) × (window_of (table_at (normalised b)) ≤ window_of (table_at b))
  pub bounds : window_of (table_at b) ≢ 0 → (i : ℕ) → bound_of (table_at (normalised b)) i ≤ bound_of (table_at b) i
  -- what the analyser accepted before 24, it accepts then
  pub accepts : (sheet_fault (table_at b)).number ≡ 0 → (row : ℕ) → places ≤ row → (analysis_fault (normalised b) row).number ≡ 0
  -- so the sheet of the new table holds for every history within the old curves
  pub guaranteed : (row : List ℕ) (h : List Tick) → (sheet_fault (table_at b)).number ≡ 0 → places ≤ length row → length h ≤ most_ticks
      → WithinCurves (table_at b) h (results (start_of (normalised b)).machine h)
      → Guaranteed (table_at (normalised b)) (row_of (normalised b) row) h (results (start_of (normalised b)).machine h)

-- the claim, of bytes
abbrev pub Normalises : Type 0
Normalises = (b : List ℕ) → ((i : ℕ) → get_or b i 0 < 256) → (normalise_fault b).number ≡ 0 → Normalised b
