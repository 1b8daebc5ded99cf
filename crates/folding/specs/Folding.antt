-- Timer beats that are folded (document 02, U6): what the mask of a tick brings is kept, but for a beat of a timer that is behind.
use Rattle.std.specs.Prelude.{Bool, not, ◌&&◌, List, ℕ, eqb, ltb, get_or}
use Rattle.masks.specs.Mask.{has, gather}
use Rattle.ranges.specs.Sum.{hit}
use Rattle.numbers.specs.Numbers.{places, timer}
use Rattle.table.specs.declared.Table.{Table}
use Rattle.table.specs.Values.{kind_of}

-- whether, of the instances of slot i that wait, one has not started: more of them wait than run
unfoldable pub unstarted : ℕ → ℕ → ℕ → Bool
unstarted waiting running i = ltb (hit running i) waiting

-- whether a beat of slot i would be folded: that of a timer of which an instance waits so, by the counts and the runner before the tick
abbrev pub folds : Table → List ℕ → ℕ → ℕ → Bool
folds t ws running i = eqb (kind_of t i) timer && unstarted (get_or ws i 0) running i

-- the timers of a mask whose beat is folded: the mask that a tick tells
unfoldable pub folded_of : Table → List ℕ → ℕ → ℕ → ℕ
folded_of t ws running mask = gather (λ i. has mask i && folds t ws running i) places

-- whether an arrival of slot i is kept: it is in the mask, and not among those folded
unfoldable pub kept : ℕ → ℕ → ℕ → Bool
kept mask folded i = has mask i && not (has folded i)

-- the arrivals that are kept, as a mask
unfoldable pub kept_of : ℕ → ℕ → ℕ
kept_of mask folded = gather (kept mask folded) places
