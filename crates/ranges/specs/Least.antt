-- least f k d: the first of d, .., d + k - 1 that passes f, 0 where none does (d is at least 1 wherever it is used).
-- lowest p n: the lowest slot below n that passes p, as an index from 1; 0 where none does.
-- largest n f: the largest of f 0, .., f (n - 1), 0 where there is none. smallest x n f: the smallest of x and f 0, .., f (n - 1).
use Rattle.std.specs.Prelude.{Bool, true, false, ℕ, zero, suc, min, max}

-- the first of d, d + 1, .. (k of them) that passes; the cases of `elim` wait, so that the search stops where it has found one
unfoldable pub least : (ℕ → Bool) → ℕ → ℕ → ℕ
least f zero d = 0
least f (suc k) d = elim (f d) [ true ↦ d | false ↦ least f k (suc d) ]

-- the test of a slot as one of its index
abbrev pub by_index : (ℕ → Bool) → ℕ → Bool
by_index p zero = false
by_index p (suc i) = p i

-- the lowest slot below n that passes, as an index: where a refusal names the lowest such callback (document 01, 'Where each refusal is tested')
abbrev pub lowest : (ℕ → Bool) → ℕ → ℕ
lowest p n = least (by_index p) n 1

-- the largest of f 0, .., f (n - 1)
unfoldable pub largest : ℕ → (ℕ → ℕ) → ℕ
largest zero f = 0
largest (suc n) f = max (largest n f) (f n)

-- the smallest of x and f 0, .., f (n - 1)
unfoldable pub smallest : ℕ → ℕ → (ℕ → ℕ) → ℕ
smallest x zero f = x
smallest x (suc n) f = min (smallest x n f) (f n)
