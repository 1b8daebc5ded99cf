-- Step 3 of a tick where nothing runs: whom it chooses, and what the cache is then.
use Rattle.std.specs.Prelude.{Bool, true, false, not, ◌&&◌, ◌||◌, List, ℕ, zero, suc, eqb}
use Rattle.masks.specs.Mask.{has, gather, count_of}
use Rattle.table.specs.declared.Table.{Table}
use Rattle.table.specs.Values.{kind_of}
use Rattle.numbers.specs.Numbers.{places, edition_two, timer}
use Rattle.turns.specs.declared.Choice.{Choice}
use Rattle.queues.specs.Queues.{waits}
use Rattle.priority.specs.Priority.{foremost}

-- whether an edition gathers callbacks of a kind at polling points: edition 1 all but timers (step 3), edition 2 all of them (document 02, U1)
unfoldable pub polled : ℕ → ℕ → Bool
polled edition kind = eqb edition edition_two || not (eqb kind timer)

-- the same of slot i: choice, cache and faults ask this
abbrev pub is_polled : Table → ℕ → Bool
is_polled t i = polled t.edition (kind_of t i)

-- whom step 3 chooses (an index, 0 for nobody), the cache then, whether it polled, and how many the poll took
abbrev pub choice : ℕ → ℕ → Bool → ℕ → Choice
choice i c polls gathered = record { chosen = i; cache = c; polled = polls; gathered = gathered }

-- whom a polling point takes into the cache: the polled ones that wait
unfoldable pub gathered_of : Table → List ℕ → ℕ
gathered_of t ws = gather (λ i. is_polled t i && waits ws i) t.count

-- a polling point that takes c, and chooses the first of them, if any
abbrev pub polling_point : Table → ℕ → Choice
polling_point t c = choice (foremost t (has c)) c true (count_of places c)

-- step 3, its three searches in turn: the unpolled ones that wait, the cache, a polling point
unfoldable pub choose : Table → ℕ → List ℕ → Choice
choose t c ws =
    elim (foremost t (λ i. not (is_polled t i) && waits ws i)) [
      | suc i ↦ choice (suc i) c false 0
      | zero ↦ elim (foremost t (has c)) [ suc i ↦ choice (suc i) c false 0 | zero ↦ polling_point t (gathered_of t ws) ]
    ]
