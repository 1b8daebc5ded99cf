-- What the turns' functions compute in masks. waits_of: the slots that wait. poll_in, choose_in: step 3. Cached: what a cache holds.
use Rattle.std.specs.Prelude.{true, false, not, ◌&&◌, List, ◌≡◌, ℕ, zero, suc, ◌<◌, get_or}
use Rattle.masks.specs.Mask.{has, gather, count_of}
use Rattle.numbers.specs.Numbers.{places}
use Rattle.table.specs.declared.Table.{Table}
use Rattle.queues.specs.Queues.{waits}
use Rattle.priority.specs.declared.Kinds.{Kinds}
use Rattle.priority.specs.Parts.{foremost_in}
use Rattle.turns.specs.declared.Choice.{Choice}
use Rattle.turns.specs.declared.Waits.{Waits}
use Rattle.turns.specs.Choosing.{is_polled, choice}

-- the slots below n that wait, by whether they are polled
abbrev pub waits_of : Table → List ℕ → ℕ → Waits
waits_of t ws n =
    record { polled = gather (λ i. is_polled t i && waits ws i) n; unpolled = gather (λ i. not (is_polled t i) && waits ws i) n }

-- a polling point in masks: the slots gathered, and the first of them
abbrev pub poll_in : Kinds → ℕ → Choice
poll_in k g = choice (foremost_in k g) g true (count_of places g)

-- step 3 in masks: the slots of each kind, the cache, and the slots that wait
unfoldable pub choose_in : Kinds → ℕ → Waits → Choice
choose_in k c w =
    elim (foremost_in k w.unpolled) [
      | suc i ↦ choice (suc i) c false 0
      | zero ↦ elim (foremost_in k c) [ suc i ↦ choice (suc i) c false 0 | zero ↦ poll_in k w.polled ]
    ]

-- what a cache holds: callbacks of the table that wait and are polled
abbrev pub Cached : Table → ℕ → List ℕ → Type 0
Cached t c ws = (i : ℕ) → has c i ≡ true → (i < t.count) × (0 < get_or ws i 0) × (is_polled t i ≡ true)
