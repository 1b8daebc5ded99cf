-- What the functions and laws of the curves ask, and what `reach` gives. max_length: the longest window. RisingEntries: of cost entries.
-- Rising: of the curves of several callbacks. Inverse: of a supply and the least length for each number of ticks. reach, reach_up_to: those lengths.
use Rattle.std.specs.Prelude.{List, true, false, ℕ, suc, ◌+◌, ◌*◌, ◌-◌, ◌/◌, ◌≤◌, ◌<◌, eqb, ltb, length}
use Rattle.numbers.specs.Numbers.{longest}
use Rattle.curves.specs.Cost.{entry}

-- the longest window that a curve is asked for, twice the longest horizon
abbrev pub max_length : ℕ
max_length = 2 * longest

-- each entry above the one before it, the first above 0: so each is at least 1
abbrev pub RisingEntries : List ℕ → Type 0
RisingEntries es = (k : ℕ) → k < length es → entry es k < entry es (suc k)

-- what the argument asks of the curves of n callbacks: a does not fall, and e rises strictly
pub record Rising (n : ℕ) (a e : ℕ → ℕ → ℕ) : Type 0 where
  pub a_up : (i d : ℕ) → i < n → a i d ≤ a i (suc d)
  pub e_up : (i m : ℕ) → i < n → e i m < e i (suc m)

-- what a search by jumps asks of a supply s and its inverse r, of lengths up to `most`: in D ticks x are supplied just where D is r x at least
pub record Inverse (most : ℕ) (s r : ℕ → ℕ) : Type 0 where
  pub enough : (x D : ℕ) → D ≤ most → r x ≤ D → x ≤ s D
  pub short : (x D : ℕ) → D ≤ most → D < r x → s D < x

-- the least length whose supply is at least x, for x over 0: behind the delay and two gaps, a period for each budget that lies whole before the last tick of x, and what is left of x
abbrev pub reach_past : ℕ → ℕ → ℕ → ℕ → ℕ
reach_past budget period delay x = let k : ℕ = (x - 1) / budget in delay + k * period + 2 * (period - budget) + (x - k * budget)

-- the inverse of the supply, of Q, P and Z: 0 for no ticks
unfoldable pub reach : ℕ → ℕ → ℕ → ℕ → ℕ
reach budget period delay x = elim (eqb x 0) [ true ↦ 0 | false ↦ reach_past budget period delay x ]

-- such an r of lengths up to `most`: none of them supplies more than `most` ticks, and for more the length past them stands
unfoldable pub reach_up_to : ℕ → (ℕ → ℕ) → ℕ → ℕ
reach_up_to most r x = elim (ltb most x) [ true ↦ suc most | false ↦ r x ]
