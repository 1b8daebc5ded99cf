-- The rows of the table of refusals by their numbers.
use Rattle.std.specs.Prelude.{ℕ}
use Rattle.numbers.specs.Numbers
use Rattle.table.specs.declared.rows.Row.{Row}
use Rattle.table.specs.declared.rows.Row.TheVariants.{ShortHeader, UnknownEdition, WrongCount, WrongLength, SpareNotZero, WrongSupply, WrongDelay, WrongHorizon, WrongKind, WrongNext, WrongEntries, AboveSum, NamedTwice, TimerNamed, Loop, WrongArrivals, NoWindow, TooMany, ShortRow, ShortBuffer, TicksSpent, WrongCost, NotAHead, QueueFull, FaultyState}

-- the number of a row
abbrev pub number_of : Row → ℕ
number_of ShortHeader = Numbers.short_header
number_of UnknownEdition = Numbers.unknown_edition
number_of WrongCount = Numbers.wrong_count
number_of WrongLength = Numbers.wrong_length
number_of SpareNotZero = Numbers.spare_not_zero
number_of WrongSupply = Numbers.wrong_supply
number_of WrongDelay = Numbers.wrong_delay
number_of WrongHorizon = Numbers.wrong_horizon
number_of WrongKind = Numbers.wrong_kind
number_of WrongNext = Numbers.wrong_next
number_of WrongEntries = Numbers.wrong_entries
number_of AboveSum = Numbers.above_sum
number_of NamedTwice = Numbers.named_twice
number_of TimerNamed = Numbers.timer_named
number_of Loop = Numbers.loop
number_of WrongArrivals = Numbers.wrong_arrivals
number_of NoWindow = Numbers.no_window
number_of TooMany = Numbers.too_many
number_of ShortRow = Numbers.short_row
number_of ShortBuffer = Numbers.short_buffer
number_of TicksSpent = Numbers.ticks_spent
number_of WrongCost = Numbers.wrong_cost
number_of NotAHead = Numbers.not_a_head
number_of QueueFull = Numbers.queue_full
number_of FaultyState = Numbers.faulty_state
