-- The head of a callback's chain (document 01, 'A history').
use Rattle.std.specs.Prelude.{ℕ, zero, suc}
use Rattle.ranges.specs.Least.{lowest}
use Rattle.table.specs.declared.Table.{Table}
use Rattle.table.specs.Links.{linked}

-- the lowest callback that names slot i, as an index; 0 where none does
unfoldable pub feeder : Table → ℕ → ℕ
feeder t i = lowest (λ p. linked t p i) t.count

-- back along the names, f steps at most
unfoldable pub head_from : Table → ℕ → ℕ → ℕ
head_from t zero i = i
head_from t (suc f) i = elim (feeder t i) [ zero ↦ i | suc p ↦ head_from t f p ]

-- the slot of the head that leads to it along next, itself where it is a head
unfoldable pub head_of : Table → ℕ → ℕ
head_of t i = head_from t t.count i
