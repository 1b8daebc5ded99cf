-- Waiting counts: who gains an instance, who loses one, who waits, who is full.
use Rattle.std.specs.Prelude.{Bool, cond, ◌&&◌, ◌||◌, List, ℕ, zero, suc, ◌+◌, ◌-◌, eqb, ltb, leb, get_or, set}
use Rattle.masks.specs.Mask.{has}
use Rattle.ranges.specs.Least.{lowest}
use Rattle.numbers.specs.Numbers.{places, most_waiting}

-- one more for slot i, and one fewer
abbrev pub gained : ℕ → List ℕ → List ℕ
gained i ws = set ws i (get_or ws i 0 + 1)

abbrev pub lessened : ℕ → List ℕ → List ℕ
lessened i ws = set ws i (get_or ws i 0 - 1)

-- the first k slots of step 1
unfoldable pub arrived_to : ℕ → ℕ → List ℕ → List ℕ
arrived_to mask zero ws = ws
arrived_to mask (suc i) ws = cond (has mask i) (gained i (arrived_to mask i ws)) (arrived_to mask i ws)

-- step 1: one more waits for each callback of the mask
unfoldable pub arrived : ℕ → List ℕ → List ℕ
arrived mask ws = arrived_to mask places ws

-- one more for the callback of an index; 0 is nobody's
unfoldable pub counted : ℕ → List ℕ → List ℕ
counted zero ws = ws
counted (suc j) ws = gained j ws

-- step 4, a completion: one fewer waits for slot i, and one more for its next
abbrev pub completed : ℕ → ℕ → List ℕ → List ℕ
completed i next ws = counted next (lessened i ws)

-- whether slot i waits
abbrev pub waits : List ℕ → ℕ → Bool
waits ws i = ltb 0 (get_or ws i 0)

-- row 21: the lowest callback with 255 waiting, among those of a mask and the one of an index
unfoldable pub full_with : List ℕ → ℕ → ℕ → ℕ
full_with ws mask x = lowest (λ j. (has mask j || eqb x (suc j)) && leb most_waiting (get_or ws j 0)) places
