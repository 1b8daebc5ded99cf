-- The work that a window may hold, over any arrivals a and costs e of n callbacks: demand, and whose instances are charged (limit).
use Rattle.std.specs.Prelude.{true, false, ℕ, suc, eqb}
use Rattle.ranges.specs.Sum.{sum}

-- the cost of m i instances of each callback i
abbrev pub demand : ℕ → (ℕ → ℕ → ℕ) → (ℕ → ℕ) → ℕ
demand n e m = sum n (λ i. e i (m i))

-- the instances charged at offset A and length D: of x the a(A + 1) whose heads came up to A, of every other j the a(D)
unfoldable pub limit : (ℕ → ℕ → ℕ) → ℕ → ℕ → ℕ → ℕ → ℕ
limit a x A D j = elim (eqb j x) [ true ↦ a x (suc A) | false ↦ a j D ]
