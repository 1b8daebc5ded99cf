-- The bound of each callback (document 01, 'The sheet'), with the tighter number for timers (document 02, U5).
-- A level is a callback and all of higher priority. For a timer of edition 1 these are timers: they go before all else, but for an instance of
-- lower priority that has started, which may hold them up by its cost less the unit that it had when it started.
use Rattle.std.specs.Prelude.{Bool, true, false, ◌&&◌, ℕ, ◌-◌, min, eqb}
use Rattle.masks.specs.Mask.{has, gather}
use Rattle.ranges.specs.Sum.{given}
use Rattle.ranges.specs.Least.{largest}
use Rattle.numbers.specs.Numbers.{edition_one, timer}
use Rattle.table.specs.declared.Table.{Table}
use Rattle.table.specs.Values.{kind_of}
use Rattle.priority.specs.Priority.{precedes}
use Rattle.windows.specs.declared.Level.{Level}
use Rattle.windows.specs.Bounds.{cost_of, window_of, window_in, bound_of_all, bound_in}

-- whether slot i gets a second bound: timers of edition 1 do
unfoldable pub overtakes : Table → ℕ → Bool
overtakes t i = eqb t.edition edition_one && eqb (kind_of t i) timer

-- who has a lower priority than slot i, in a mask
unfoldable pub lower_than : Table → ℕ → ℕ
lower_than t i = gather (precedes t i) t.count

-- B: the largest E(1) of a mask's slots, less 1; 0 where it has none
unfoldable pub blocking_by : Table → ℕ → ℕ
blocking_by t below = largest t.count (λ j. given (has below j) (cost_of t j 1)) - 1

-- the level of slot i; its window is never above W (level_window of proofs/LevelLaws.antt), so none past W is looked at
unfoldable pub level_of : Table → ℕ → Level
level_of t i = record { below = lower_than t i; blocking = blocking_by t (lower_than t i); horizon = window_of t }

-- the own window of slot i, and its second bound
unfoldable pub window_of_level : Table → ℕ → ℕ
window_of_level t i = window_in t (level_of t i)

unfoldable pub bound_of_level : Table → ℕ → ℕ
bound_of_level t i = bound_in t (level_of t i) i

-- the number of slot i in the row: the smaller of the two, where there are two
unfoldable pub bound_of : Table → ℕ → ℕ
bound_of t i = elim (overtakes t i) [ true ↦ min (bound_of_all t i) (bound_of_level t i) | false ↦ bound_of_all t i ]
