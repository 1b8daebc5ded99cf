-- What document 02, U7 asks of an entry that replaces another, with no recursion over positions: it is the least sum over all ways to split the position.
-- total, Positions: the sum of some positions, and that each is one. Split k ps: ps is a way to split k.
-- sum_of es ps: the sum of its entries. LeastSum es k x: no way sums to less than x, and one to x.
-- Subadditive es: no entry is above the sum of two whose positions add up to its own.
use Rattle.std.specs.Prelude.{◌≡◌, List, [], ◌∷◌, ℕ, ◌+◌, ◌≤◌, length}
use Rattle.curves.specs.Cost.{entry}

-- the positions of a way to split, added up (document 02, U7)
abbrev pub total : List ℕ → ℕ
total [] = 0
total (p ∷ ps) = p + total ps

-- each of them is a position, from 1 on (document 02, U7)
abbrev pub Positions : List ℕ → Type 0
Positions [] = Unit
Positions (p ∷ ps) = (1 ≤ p) × Positions ps

-- a way to split position k (document 02, U7): positions from 1 on that add up to it; the list of k alone is the whole
abbrev pub Split : ℕ → List ℕ → Type 0
Split k ps = Positions ps × (total ps ≡ k)

-- the sum over a way to split (document 02, U7): the entries of its positions
abbrev pub sum_of : List ℕ → List ℕ → ℕ
sum_of es [] = 0
sum_of es (p ∷ ps) = entry es p + sum_of es ps

-- x is the least sum over all ways to split position k (document 02, U7): none has a smaller one, and one has this
pub record LeastSum (es : List ℕ) (k x : ℕ) : Type 0 where
  pub under : (ps : List ℕ) → Split k ps → x ≤ sum_of es ps
  pub met : (ps : List ℕ) × Split k ps × (x ≡ sum_of es ps)

-- a curve that can be (document 02, U7): no entry is above the sum of two entries whose positions add up to its own
abbrev pub Subadditive : List ℕ → Type 0
Subadditive es = (i j : ℕ) → 1 ≤ i → 1 ≤ j → i + j ≤ length es → entry es (i + j) ≤ entry es i + entry es j
