-- What the links of a table mean (document 01, 'The callback table'): who names whom, heads, loops, and whom a completion activates.
use Rattle.std.specs.Prelude.{Bool, not, ◌&&◌, ℕ, zero, suc, eqb, ltb}
use Rattle.masks.specs.Mask.{has}
use Rattle.numbers.specs.Numbers.{places}
use Rattle.ranges.specs.Sum.{sum, given}
use Rattle.ranges.specs.Least.{least, lowest}
use Rattle.table.specs.Walk.{walk}
use Rattle.table.specs.declared.Table.{Table}
use Rattle.table.specs.Values.{next_of}

-- whether slot p names slot i as next
unfoldable pub linked : Table → ℕ → ℕ → Bool
linked t p i = eqb (next_of t p) (suc i)

-- how many records name slot i
unfoldable pub named : Table → ℕ → ℕ
named t i = sum t.count (λ p. given (linked t p i) 1)

-- a head: no record names it as next
unfoldable pub is_head : Table → ℕ → Bool
is_head t i = eqb (named t i) 0

-- on a loop: some number of steps from 1 to n along next leads back
unfoldable pub on_loop : Table → ℕ → Bool
on_loop t i = not (eqb (least (λ k. eqb (walk (next_of t) k (suc i)) (suc i)) t.count 1) 0)

-- the next of the callback of an index; 0 where the index is
unfoldable pub next_after : Table → ℕ → ℕ
next_after t x = elim x [ zero ↦ 0 | suc i ↦ next_of t i ]

-- row 20 of the refusals: the lowest slot of a mask that is no head of the table, as an index
unfoldable pub foreign : Table → ℕ → ℕ
foreign t mask = lowest (λ i. has mask i && not (ltb i t.count && is_head t i)) places
