-- Demand 3, one claim over a whole history.
-- For the bytes b of a table that the analyser accepts with a row, and any list h of at most 1,000,000,000 ticks that is within the curves
-- with the results that the machine started from b gives: no tick is refused; no instance starts before its activation; and wherever the k-th
-- activation of the head of a callback's chain is at time v, and v + R is at most N, R being the callback's number in the row that the analyser
-- wrote, the k-th completion of the callback is there, at time v + R or earlier.
use Rattle.std.specs.Prelude.{◌≡◌, List, ℕ, suc, ◌+◌, ◌≤◌, ◌<◌, length, get_or, Ok}
use Rattle.table.specs.declared.Table.{Table}
use Rattle.reader.specs.Format.{table_at}
use Rattle.answers.specs.declared.Answer.{Answer}
use Rattle.numbers.specs.Numbers.{most_ticks}
use Rattle.executor.specs.Start.{start_of}
use Rattle.sheet.specs.Sheet.{analysis_fault, row_of}
use Rattle.guarantee.specs.History.{Tick, Result, results, result_at, activations, Activation, InstanceStarts, Completion}
use Rattle.guarantee.specs.Within.{WithinCurves}
use Rattle.chains.specs.Chains.{head_of}

-- what is promised of a table, a row of bounds, a list of ticks and its results
pub record Guaranteed (tb : Table) (row : List ℕ) (h : List Tick) (r : List Result) : Type 0 where
  -- no tick is refused: each is answered
  pub answered : (t : ℕ) → t < length h → (a : Answer) × ((result_at r t).outcome ≡ Ok a)
  -- no instance starts before its activation: where instance k starts at time t there are k activations at times up to t
  pub started : (i k t : ℕ) → i < tb.count → t < length h → InstanceStarts r i k t → k ≤ activations tb h r i (suc t)
  -- the bound: the k-th completion comes by R after the k-th activation of the chain's head, wherever the list runs that far
  pub finished : (i k v : ℕ) → i < tb.count → Activation tb h r (head_of tb i) k v → v + get_or row i 0 ≤ length h
      → (t : ℕ) × (t ≤ v + get_or row i 0) × Completion r i k t

-- the claim
abbrev pub Guarantee : Type 0
Guarantee = (b row : List ℕ) (h : List Tick)
    → (analysis_fault b (length row)).number ≡ 0
    → length h ≤ most_ticks
    → WithinCurves (table_at b) h (results (start_of b).machine h)
    → Guaranteed (table_at b) (row_of b row) h (results (start_of b).machine h)
