-- Window and bounds of a table, and of a level of it: its curves, and what document 01's 'The sheet' and document 02's U5 take of them.
use Rattle.std.specs.Prelude.{not, ℕ}
use Rattle.masks.specs.Mask.{has}
use Rattle.ranges.specs.Sum.{given}
use Rattle.curves.specs.Arrivals.{arrivals}
use Rattle.curves.specs.Cost.{cost}
use Rattle.curves.specs.Supply.{delayed_supply}
use Rattle.table.specs.declared.Callback.{Callback}
use Rattle.table.specs.declared.Table.{Table}
use Rattle.table.specs.Values.{callback_at, entries_of, horizon_of}
use Rattle.chains.specs.Chains.{head_of}
use Rattle.windows.specs.declared.Level.{Level}
use Rattle.windows.specs.Window.{window, bound}

-- a of slot i: that of the head of its chain
unfoldable pub arrivals_of : Table → ℕ → ℕ → ℕ
arrivals_of t i = let c : Callback = callback_at t (head_of t i) in arrivals c.period c.jitter c.distance

-- E of slot i
unfoldable pub cost_of : Table → ℕ → ℕ → ℕ
cost_of t i = cost (entries_of (callback_at t i))

-- the supply of the table, behind its delay
unfoldable pub supply_of : Table → ℕ → ℕ
supply_of t = delayed_supply t.budget t.period t.delay

-- W, 0 where there is none
unfoldable pub window_of : Table → ℕ
window_of t = window t.count (arrivals_of t) (cost_of t) (supply_of t) 0 (horizon_of t)

-- the bound of slot i over all callbacks
unfoldable pub bound_of_all : Table → ℕ → ℕ
bound_of_all t i = bound t.count (arrivals_of t) (cost_of t) (supply_of t) 0 (horizon_of t) i

-- a level: the arrivals of its callbacks, and none of those below it
unfoldable pub arrivals_in : Table → Level → ℕ → ℕ → ℕ
arrivals_in t v i D = given (not (has v.below i)) (arrivals_of t i D)

-- its window, and the bound of slot i in it
unfoldable pub window_in : Table → Level → ℕ
window_in t v = window t.count (arrivals_in t v) (cost_of t) (supply_of t) v.blocking v.horizon

unfoldable pub bound_in : Table → Level → ℕ → ℕ
bound_in t v i = bound t.count (arrivals_in t v) (cost_of t) (supply_of t) v.blocking v.horizon i

-- all callbacks, nobody below them
abbrev pub everyone : Table → Level
everyone t = record { below = 0; blocking = 0; horizon = horizon_of t }
