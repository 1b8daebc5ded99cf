-- The entries of a cost curve, each replaced by the least sum over the ways to split its position (document 02, U7): the subadditive closure. 3, 9 becomes 3, 6.
-- The recursion takes the first part of a split and the least sum of the rest; that no split sums to less is LeastSum of Split.
use Rattle.std.specs.Prelude.{List, [], ◌∷◌, ◌++◌, ℕ, zero, suc, ◌+◌, ◌-◌, length}
use Rattle.ranges.specs.Least.{smallest}
use Rattle.curves.specs.Cost.{entry}

-- E'(1) to E'(k): the whole entry of each position, or the entry of a first part and the least sum of the rest, whatever is less
unfoldable pub closed_to : List ℕ → ℕ → List ℕ
closed_to es zero = []
closed_to es (suc k) = closed_to es k ++ (smallest (entry es (suc k)) k (λ j. entry es (suc j) + entry (closed_to es k) (k - j)) ∷ [])

-- each of the m entries replaced
unfoldable pub closed : List ℕ → List ℕ
closed es = closed_to es (length es)
