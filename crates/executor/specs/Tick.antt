-- The tick: the first refusal that applies, 29, 18, 19, 20, 21, or the effect.
use Rattle.std.specs.Prelude.{Bool, true, false, ℕ, eqb, leb, Err}
use Rattle.table.specs.declared.Refusal.{Refusal}
use Rattle.table.specs.declared.Table.{Table}
use Rattle.table.specs.Values.{refuse, accepted, lowest_refused}
use Rattle.table.specs.Links.{next_after, foreign}
use Rattle.executor.specs.declared.Machine.{Machine}
use Rattle.executor.specs.declared.Ticked.{Ticked}
use Rattle.numbers.specs.Numbers
use Rattle.queues.specs.Queues.{full_with}
use Rattle.answers.specs.Outcome.{Outcome, finished_of}
use Rattle.executor.specs.State.{faulty}
use Rattle.executor.specs.Effect.{kept_in, effect}
use Rattle.ranges.specs.Every.{within}

-- the callback that a completion activates, an index; 0 where none is
abbrev pub next_activated : Table → Outcome → ℕ
next_activated t o = next_after t (finished_of o)

-- row 21: the lowest full queue, before the tick, among those that its arrivals and its completion would add to; a beat that is folded adds to none
unfoldable pub full : Machine → ℕ → Bool → ℕ → ℕ
full m mask supplied cost = full_with m.waiting (kept_in m mask) (next_activated m.table (effect m mask supplied cost).outcome)

-- the first refusal that applies, in the order of the rows
unfoldable pub tick_fault : Machine → ℕ → Bool → ℕ → Refusal
tick_fault m mask supplied cost =
    elim (faulty m) [
      | true ↦ refuse Numbers.faulty_state 0
      | false ↦ elim (leb Numbers.most_ticks m.clock) [
        | true ↦ refuse Numbers.ticks_spent 0
        | false ↦ elim (within 1 Numbers.longest cost) [
          | false ↦ refuse Numbers.wrong_cost 0
          | true ↦ lowest_refused Numbers.not_a_head (foreign m.table mask) (lowest_refused Numbers.queue_full (full m mask supplied cost) accepted)
        ]
      ]
    ]

-- a refused tick: the state stays, and beside the refusal nothing starts, is polled, gathered or folded
unfoldable pub refused : Machine → Refusal → Ticked
refused m r = record { machine = m; outcome = Err r; started = false; polled = false; gathered = 0; folded = 0 }

-- the tick
unfoldable pub tick_of : Machine → ℕ → Bool → ℕ → Ticked
tick_of m mask supplied cost =
    let r : Refusal = tick_fault m mask supplied cost in
    elim (eqb r.number 0) [ true ↦ effect m mask supplied cost | false ↦ refused m r ]
