-- What the functions that look for loops ask and give: names_known, marks, reached_to.
use Rattle.std.specs.Prelude.{Bool, true, false, ℕ, zero, suc, leb}
use Rattle.ranges.specs.Every.{every}
use Rattle.masks.specs.Mask.{has, with_bit}
use Rattle.table.specs.declared.Table.{Table}
use Rattle.table.specs.Values.{next_of}

-- no record names a callback beyond n
unfoldable pub names_known : Table → Bool
names_known t = every t.count (λ i. leb (next_of t i) t.count)

-- m with the slots that k steps along next meet, from index x on
unfoldable pub marks : (ℕ → ℕ) → ℕ → ℕ → ℕ → ℕ
marks next zero x m = m
marks next (suc k) zero m = m
marks next (suc k) (suc i) m = marks next k (next i) (with_bit m i)

-- the slots that next leads to from those of the mask that lie below f
unfoldable pub reached_to : Table → ℕ → ℕ → ℕ
reached_to t heads zero = 0
reached_to t heads (suc i) = elim (has heads i) [ true ↦ marks (next_of t) t.count (suc i) (reached_to t heads i) | false ↦ reached_to t heads i ]
