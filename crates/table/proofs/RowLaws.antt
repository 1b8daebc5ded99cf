-- No row of the table of refusals has the number 0, which says that nothing is refused. Assumes nothing.
use mathlib.Core.Logic.{◌≢◌}
use native.Mathlib.Omega.{arith}
use Rattle.table.specs.declared.rows.Row.{Row}
use Rattle.table.specs.declared.rows.Row.TheVariants.{ShortHeader, UnknownEdition, WrongCount, WrongLength, SpareNotZero, WrongSupply, WrongDelay, WrongHorizon, WrongKind, WrongNext, WrongEntries, AboveSum, NamedTwice, TimerNamed, Loop, WrongArrivals, NoWindow, TooMany, ShortRow, ShortBuffer, TicksSpent, WrongCost, NotAHead, QueueFull, FaultyState}
use Rattle.table.specs.Rows.{number_of}

pub some_number : (row : Row) → number_of row ≢ 0
some_number ShortHeader = λ z. omega arith
some_number UnknownEdition = λ z. omega arith
some_number WrongCount = λ z. omega arith
some_number WrongLength = λ z. omega arith
some_number SpareNotZero = λ z. omega arith
some_number WrongSupply = λ z. omega arith
some_number WrongDelay = λ z. omega arith
some_number WrongHorizon = λ z. omega arith
some_number WrongKind = λ z. omega arith
some_number WrongNext = λ z. omega arith
some_number WrongEntries = λ z. omega arith
some_number AboveSum = λ z. omega arith
some_number NamedTwice = λ z. omega arith
some_number TimerNamed = λ z. omega arith
some_number Loop = λ z. omega arith
some_number WrongArrivals = λ z. omega arith
some_number NoWindow = λ z. omega arith
some_number TooMany = λ z. omega arith
some_number ShortRow = λ z. omega arith
some_number ShortBuffer = λ z. omega arith
some_number TicksSpent = λ z. omega arith
some_number WrongCost = λ z. omega arith
some_number NotAHead = λ z. omega arith
some_number QueueFull = λ z. omega arith
some_number FaultyState = λ z. omega arith
