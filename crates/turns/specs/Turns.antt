-- Whose turn a supplied tick is, step 3 of document 01, and what step 4 leaves of it, the counts aside.
use Rattle.std.specs.Prelude.{Bool, true, false, not, List, ℕ, zero, suc, ◌-◌, eqb}
use Rattle.masks.specs.Mask.{without_bit}
use Rattle.table.specs.declared.Table.{Table}
use Rattle.answers.specs.declared.Answer.{Answer}
use Rattle.answers.specs.declared.Answer.TheVariants.{Idle, Ran, Finished}
use Rattle.turns.specs.declared.Choice.{Choice}
use Rattle.turns.specs.declared.Turn.{Turn}
use Rattle.turns.specs.declared.Step.{Step}
use Rattle.turns.specs.Choosing.{choice, choose}

-- the turn of a choice, with the units left before the tick and whether an instance starts
abbrev pub turn : Choice → ℕ → Bool → Turn
turn x u started = record { chosen = x.chosen; cache = x.cache; polled = x.polled; gathered = x.gathered; units = u; started = started }

-- the chosen instance, if any, starts, its units being the tick's cost
abbrev pub starts : Choice → ℕ → Turn
starts x cost = turn x cost (not (eqb x.chosen 0))

-- step 3: what runs has the turn; where nothing runs, the one chosen
unfoldable pub turn_of : Table → List ℕ → ℕ → ℕ → ℕ → ℕ → Turn
turn_of t ws c running units cost =
    elim running [ zero ↦ starts (choose t c ws) cost | suc i ↦ turn (choice (suc i) c false 0) units false ]

abbrev pub step : ℕ → ℕ → ℕ → Answer → Step
step c r u a = record { cache = c; running = r; units = u; answer = a }

-- nobody's turn
abbrev pub idles : Turn → Step
idles x = step x.cache 0 0 Idle

-- the last unit of slot i, instance k: it finishes and leaves the cache
abbrev pub finishes : Turn → ℕ → ℕ → Step
finishes x i k = step (without_bit x.cache i) 0 0 (Finished (suc i) k)

-- another unit of it
abbrev pub continues : Turn → ℕ → ℕ → Step
continues x i k = step x.cache (suc i) (x.units - 1) (Ran (suc i) k)

-- step 4 for whose turn it is
unfoldable pub step_of : Turn → ℕ → Step
step_of x k =
    elim x.chosen [ zero ↦ idles x | suc i ↦ elim (eqb x.units 1) [ true ↦ finishes x i k | false ↦ continues x i k ] ]
