-- What the functions inside a tick ask and give. Valid: a state without faults, the limit of 255 aside; Room: that limit, or another one.
-- Admissible: what the steps ask. Completes, completed_by: a completion. admitted: the tick past the refusals 29, 18, 19 and 20.
use Rattle.std.specs.Prelude.{ℕ, zero, suc, ◌+◌, ◌≤◌, ◌<◌, ◌≡◌, Bool, true, false, length}
use Rattle.masks.specs.Mask.{has}
use Rattle.numbers.specs.Numbers.{places, most_ticks, most_waiting, longest, queue_full}
use Rattle.table.specs.Values.{next_of, refuse}
use Rattle.queues.specs.Queues.{counted}
use Rattle.turns.specs.Choosing.{is_polled}
use Rattle.turns.specs.Parts.{Cached}
use Rattle.faults.specs.Faults.{table_fault}
use Rattle.executor.specs.declared.Machine.{Machine}
use Rattle.executor.specs.declared.Ticked.{Ticked}
use Rattle.executor.specs.State.{with_counts, waiting_of, finished_at}
use Rattle.executor.specs.Effect.{left, effect}
use Rattle.executor.specs.Tick.{full, refused}

-- a state with none of the faults of row 29, the limit of the waiting counts aside
pub record Valid (m : Machine) : Type 0 where
  pub table : table_fault m.table ≡ false
  pub sized : (length m.waiting ≡ places) × (length m.finished ≡ places)
  pub beyond : (i : ℕ) → m.table.count ≤ i → i < places → (waiting_of m i ≡ 0) × (finished_at m i ≡ 0)
  pub cached : Cached m.table m.cache m.waiting
  pub runner : (i : ℕ) → m.running ≡ suc i → (i < m.table.count) × (0 < waiting_of m i) × (is_polled m.table i ≡ true → has m.cache i ≡ true)
  pub measured : (i : ℕ) → m.running ≡ suc i → (1 ≤ m.units) × (m.units ≤ longest)
  pub rest : m.running ≡ 0 → m.units ≡ 0
  pub early : (i : ℕ) → i < places → finished_at m i ≤ m.clock

-- no waiting count is above `most`
abbrev pub Room : ℕ → Machine → Type 0
Room most m = (i : ℕ) → i < places → waiting_of m i ≤ most

-- what steps 1 to 4 ask of a state and the tick's cost
pub record Admissible (most : ℕ) (m : Machine) (cost : ℕ) : Type 0 where
  pub valid : Valid m
  pub room : Room most m
  pub early : m.clock < most_ticks
  pub priced : (1 ≤ cost) × (cost ≤ longest)

-- what a completion of the callback of an index asks: it waits, and the counts have room for one more
pub record Completes (m : Machine) (i : ℕ) : Type 0 where
  pub inside : i < places
  pub waits : 0 < waiting_of m i
  pub room : Room (most_waiting + 1) m
  pub counted : finished_at m i < most_ticks
  pub linked : next_of m.table i ≤ places

-- the state with the counts of that completion; index 0 is nobody's
unfoldable pub completed_by : Machine → ℕ → Machine
completed_by m f = with_counts m (left m.table f m.waiting) (counted f m.finished)

-- refusal 21, or the effect
unfoldable pub admitted : Machine → ℕ → Bool → ℕ → Ticked
admitted m mask supplied cost = elim (full m mask supplied cost) [ zero ↦ effect m mask supplied cost | suc i ↦ refused m (refuse queue_full (suc i)) ]
