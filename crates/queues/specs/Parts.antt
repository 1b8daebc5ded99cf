-- full_in: a full queue among those of a mask.
use Rattle.std.specs.Prelude.{◌&&◌, List, ℕ, leb, get_or}
use Rattle.masks.specs.Mask.{has}
use Rattle.ranges.specs.Least.{lowest}
use Rattle.numbers.specs.Numbers.{places, most_waiting}

-- the lowest slot of a mask that has 255 waiting, as an index; 0 where none has
unfoldable pub full_in : List ℕ → ℕ → ℕ
full_in ws mask = lowest (λ j. has mask j && leb most_waiting (get_or ws j 0)) places
