-- The fresh state, and the faults of row 29 of the refusals.
use Rattle.std.specs.Prelude.{Bool, ◌||◌, List, ℕ, get_or, replicate}
use Rattle.table.specs.declared.Table.{Table}
use Rattle.numbers.specs.Numbers.{places}
use Rattle.faults.specs.Faults.{table_fault, slots_fault, run_wrong}
use Rattle.executor.specs.declared.Machine.{Machine}

-- the fresh state of a table: no tick taken, and nothing waits, runs, is cached or has finished
unfoldable pub fresh : Table → Machine
fresh t =
    record { table = t; waiting = replicate places 0; finished = replicate places 0; cache = 0; running = 0; units = 0; clock = 0 }

-- a state with other counts
abbrev pub with_counts : Machine → List ℕ → List ℕ → Machine
with_counts m ws fs =
    record { table = m.table; waiting = ws; finished = fs; cache = m.cache; running = m.running; units = m.units; clock = m.clock }

-- instances of slot i that wait, and that have finished
abbrev pub waiting_of : Machine → ℕ → ℕ
waiting_of m i = get_or m.waiting i 0

abbrev pub finished_at : Machine → ℕ → ℕ
finished_at m i = get_or m.finished i 0

-- the faults of a state around its table
abbrev pub state_fault : Machine → Bool
state_fault m =
    run_wrong m.table.count m.running m.units || slots_fault m.table m.cache m.running m.waiting m.finished m.clock

-- row 29: any of the faults
unfoldable pub faulty : Machine → Bool
faulty m = table_fault m.table || state_fault m
