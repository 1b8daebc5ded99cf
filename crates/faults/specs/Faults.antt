-- The faults of row 29 of the refusals, over values: the table, one slot and all of them, what runs.
use Rattle.std.specs.Prelude.{Bool, cond, not, ◌&&◌, ◌||◌, List, ℕ, suc, eqb, ltb, leb, get_or}
use Rattle.masks.specs.Mask.{has}
use Rattle.table.specs.declared.Table.{Table}
use Rattle.rules.specs.Rules.{fault_of}
use Rattle.numbers.specs.Numbers.{places, most_waiting, longest}
use Rattle.ranges.specs.Every.{some, within}
use Rattle.turns.specs.Choosing.{is_polled}

-- a table that the reader would refuse
unfoldable pub table_fault : Table → Bool
table_fault t = not (eqb (fault_of t).number 0)

-- a slot, from whether it lies beyond n, is cached, runs and is polled, its waiting and finished counts, and the ticks taken

-- beyond n, where nothing is cached, waits or has finished
unfoldable pub beyond_wrong : Bool → Bool → ℕ → ℕ → Bool
beyond_wrong beyond cached w f = beyond && (cached || (ltb 0 w || ltb 0 f))

-- too many wait, or more have finished than ticks were taken
unfoldable pub count_wrong : ℕ → ℕ → ℕ → Bool
count_wrong w f clock = ltb most_waiting w || ltb clock f

-- who is cached or runs waits; the cached are polled, and whoever runs and is polled is cached
unfoldable pub cache_wrong : Bool → Bool → Bool → ℕ → Bool
cache_wrong cached running polled w =
    ((cached || running) && eqb w 0) || ((cached && not polled) || (running && (polled && not cached)))

-- any of the three
unfoldable pub slot_wrong : Bool → Bool → Bool → Bool → ℕ → ℕ → ℕ → Bool
slot_wrong beyond cached running polled w f clock =
    beyond_wrong beyond cached w f || (count_wrong w f clock || cache_wrong cached running polled w)

-- what runs is beyond n, or its units left are out of their range; without anything running there are none
unfoldable pub run_wrong : ℕ → ℕ → ℕ → Bool
run_wrong n running units = ltb n running || cond (eqb running 0) (not (eqb units 0)) (not (within 1 longest units))

-- what is wrong in slot i, and in any of them: of a table, the cache, what runs, waiting and finished counts, and the ticks taken
abbrev pub slot_fault : Table → ℕ → ℕ → List ℕ → List ℕ → ℕ → ℕ → Bool
slot_fault t c r ws fs clock i = slot_wrong (leb t.count i) (has c i) (eqb r (suc i)) (is_polled t i) (get_or ws i 0) (get_or fs i 0) clock

abbrev pub slots_fault : Table → ℕ → ℕ → List ℕ → List ℕ → ℕ → Bool
slots_fault t c r ws fs clock = some places (slot_fault t c r ws fs clock)
