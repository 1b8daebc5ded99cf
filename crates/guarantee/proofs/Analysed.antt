-- What reader and analyser have seen to, of a table that both accept: all that the argument asks of it.
--   Analysed, analysed   the table is sound and its sheet covers every offset, where the analyser accepts the bytes
--   Leveled          the same of the level of a callback: its own window and second bound
--   chains, leads    the chains of a sound table, as the busy-window argument takes them
use mathlib.Core.Path.{◌≡◌}
use mathlib.Core.Logic.{◌≢◌}
use mathlib.Core.Bool.{true, false}
use mathlib.Core.List.{List}
use Prim.Native.Nat.{ℕ, ◌+◌, ◌≤◌, ◌<◌}
use native.Mathlib.Omega.{arith}
use lib.Dec.{T}
use Rattle.curves.specs.Demand.{demand, limit}
use Rattle.ranges.proofs.EveryLaws.{T_holds}
use Rattle.table.specs.declared.Table.{Table}
use Rattle.table.specs.Values.{horizon_of}
use Rattle.table.specs.Links.{linked, is_head}
use Rattle.reader.specs.Format.{table_at}
use Rattle.rules.specs.Parts.{Sound}
use Rattle.rules.proofs.Heads.{fed_once, top, down, head_is_head}
use Rattle.reader.proofs.Accepted.{read_sound}
use Rattle.busy_window.specs.Bound.{Covers}
use Rattle.busy_window.specs.Chain.{Chains}
use Rattle.numbers.specs.Numbers.{most_waiting}
use Rattle.faults.specs.Faults.{table_fault}
use Rattle.executor.proofs.StartLaws.{read_faultless}
use Rattle.sheet.specs.Sheet.{analysis_fault}
use Rattle.windows.proofs.WindowLaws.{window_settles, bound_covers}
use Rattle.windows.proofs.TableLaws.{sound_rising, level_rising}
use Rattle.windows.specs.declared.Level.{Level}
use Rattle.levels.specs.Levels.{level_of, window_of_level, bound_of_level}
use Rattle.levels.proofs.LevelLaws.{level_window}
use Rattle.sheet.proofs.Accepted.{analysed_read, analysed_sheet, some_window, few_arrivals}
use Rattle.chains.specs.Chains.{head_of}
use Rattle.windows.specs.Bounds.{arrivals_of, cost_of, supply_of, window_of, bound_of_all, arrivals_in, window_in, bound_in}

-- the level of slot i: a window that the supply covers, B units going to others, and a bound that covers every offset
pub record Leveled (t : Table) (i : ℕ) : Type 0 where
  pub window : 0 < window_of_level t i
  pub supplied : demand t.count (cost_of t) (λ j. arrivals_in t (level_of t i) j (window_of_level t i)) + (level_of t i).blocking ≤ supply_of t (window_of_level t i)
  pub covers : Covers t.count (cost_of t) (supply_of t) (level_of t i).blocking (limit (arrivals_in t (level_of t i)) i) (window_of_level t i) (bound_of_level t i)

pub record Analysed (t : Table) : Type 0 where
  -- a table that the reader gives, which no tick refuses with 29
  pub sound : Sound t
  pub faultless : table_fault t ≡ false
  -- a window that the supply covers, within which no head activates more than 255 times
  pub window : 0 < window_of t
  pub supplied : demand t.count (cost_of t) (λ i. arrivals_of t i (window_of t)) + 0 ≤ supply_of t (window_of t)
  pub small : (i : ℕ) → i < t.count → is_head t i ≡ true → arrivals_of t i (window_of t) ≤ most_waiting
  -- and bounds that cover every offset
  pub covers : (i : ℕ) → i < t.count → Covers t.count (cost_of t) (supply_of t) 0 (limit (arrivals_of t) i) (window_of t) (bound_of_all t i)
  pub level : (i : ℕ) → Leveled t i

module _ (t : Table) (so : Sound t) where
  pub chains : Chains t.count (linked t) (head_of t)
  chains = record { once = fed_once t so; top = λ i _. top t i; down = down t so }

  -- the head of a chain is a head
  pub leads : (i : ℕ) → i < t.count → T (is_head t (head_of t i))
  leads i l = T_holds _ (head_is_head t so i l)

leveled : (t : Table) → Sound t → window_of t ≢ 0 → (i : ℕ) → Leveled t i
unfolding window_of_level window_in bound_of_level bound_in
leveled t so some i =
    let v : Level = level_of t i in
    let own = level_window t so i some in
    let w = window_settles t.count (arrivals_in t v) (cost_of t) (supply_of t) v.blocking v.horizon (λ z. omega (arith, own.0)) in
    record {
      window = own.0;
      supplied = omega (arith, w.2);
      covers = λ A h. (
          let c = bound_covers t.count (arrivals_in t v) (cost_of t) (supply_of t) v.blocking v.horizon (level_rising t so v) i A h in
          (c.0, omega (arith, c.1), c.2)
          );
    }

-- ---- bytes that the analyser accepts

pub analysed : (b : List ℕ) (k : ℕ) → (analysis_fault b k).number ≡ 0 → Analysed (table_at b)
unfolding window_of bound_of_all
analysed b k ok =
    let t : Table = table_at b in
    let so : Sound (table_at b) = read_sound b (analysed_read b k ok) in
    let some : window_of (table_at b) ≢ 0 = some_window (table_at b) (analysed_sheet b k ok) in
    let w = window_settles t.count (arrivals_of t) (cost_of t) (supply_of t) 0 (horizon_of t) some in
    record {
      sound = so;
      faultless = read_faultless b (analysed_read b k ok);
      window = w.0;
      supplied = omega (arith, w.2);
      small = few_arrivals t (analysed_sheet b k ok);
      level = leveled t so some;
      covers = λ i l A h. (
          let c = bound_covers t.count (arrivals_of t) (cost_of t) (supply_of t) 0 (horizon_of t) (sound_rising t so) i A h in
          (c.0, omega (arith, c.1), c.2)
          );
    }
