-- What the search's inner functions compute, and what they may assume of a table without faults.
use Rattle.std.specs.Prelude.{◌≡◌, Bool, List, ℕ, ◌+◌, ◌*◌, ◌≤◌, ◌<◌, Option, length, get_or}
use Rattle.ranges.specs.Sum.{sum}
use Rattle.masks.specs.Mask.{with_bit}
use Rattle.masks.specs.Parts.{some_index}
use Rattle.numbers.specs.Numbers.{places, entry_places, longest}
use Rattle.curves.specs.Arrivals.{arrivals}
use Rattle.curves.specs.Cost.{cost}
use Rattle.curves.specs.Parts.{RisingEntries, reach, reach_up_to}
use Rattle.table.specs.declared.Callback.{Callback}
use Rattle.table.specs.declared.Table.{Table}
use Rattle.table.specs.Values.{entries_of}
use Rattle.chains.specs.Chains.{head_of}
use Rattle.rules.specs.Parts.{Sound}
use Rattle.windows.specs.declared.Level.{Level}
use Rattle.windows.specs.Window.{covered, finish}
use Rattle.windows.specs.Bounds.{arrivals_in, cost_of, supply_of}

-- a of the head g
abbrev pub head_arrivals : Callback → ℕ → ℕ
head_arrivals g = arrivals g.period g.jitter g.distance

-- E of callback c at the arrivals of its head g in D ticks
unfoldable pub work_of : Callback → Callback → ℕ → ℕ
work_of c g D = cost (entries_of c) (head_arrivals g D)

-- no callback can cost more than this in a window up to the longest
abbrev pub most_work : ℕ
most_work = 65535 * longest

-- what slot j adds to the demand of a level in D ticks
unfoldable pub work_in : Table → Level → ℕ → ℕ → ℕ
work_in t v D j = cost_of t j (arrivals_in t v j D)

-- that demand, on top of what is taken from the level
abbrev pub demand_in : Table → Level → ℕ → ℕ
demand_in t v D = v.blocking + sum t.count (work_in t v D)

-- it cannot be more than this in a window up to the longest
abbrev pub most_demand : ℕ
most_demand = 65535 + places * most_work

-- the level with one slot less, which is not charged as the rest are
abbrev pub but : Level → ℕ → Level
but v x = record { below = with_bit v.below x; blocking = v.blocking; horizon = v.horizon }

-- the test of a level's window, and F(A) of slot x in it
unfoldable pub covered_in : Table → Level → ℕ → Bool
covered_in t v = covered t.count (arrivals_in t v) (cost_of t) (supply_of t) v.blocking

unfoldable pub finish_in : Table → Level → ℕ → ℕ → ℕ
finish_in t v = finish t.count (arrivals_in t v) (cost_of t) (supply_of t) v.blocking v.horizon

-- the inverse of the table's supply, of lengths up to `most`
unfoldable pub reach_of : Table → ℕ → ℕ → ℕ
reach_of t most = reach_up_to most (reach t.budget t.period t.delay)

-- a length that was searched for, where there is one: the definitions say 0 where there is none
abbrev pub found : ℕ → Option ℕ
found = some_index

-- what the curves ask of a head's record
pub record Spaced (c : Callback) : Type 0 where
  pub period_some : 0 < c.period
  pub period_most : c.period ≤ longest
  pub jitter_most : c.jitter ≤ longest
  pub distance_some : 0 < c.distance
  pub distance_most : c.distance ≤ longest

-- what they ask of the cost entries of any record
pub record Costed (c : Callback) : Type 0 where
  pub entries_some : 1 ≤ c.used
  pub entries_most : c.used ≤ entry_places
  pub listed : 0 < length (entries_of c)
  pub rising : RisingEntries (entries_of c)

-- a table that the reader accepts, with the head of each slot's chain
pub record Headed (t : Table) (heads : List ℕ) : Type 0 where
  pub sound : Sound t
  pub headed : (i : ℕ) → i < t.count → get_or heads i 0 ≡ head_of t i
