-- Which of two callbacks is chosen first: the smaller kind number, and among equals the smaller index (document 01, 'The callback table').
use Rattle.std.specs.Prelude.{Bool, ◌&&◌, ◌||◌, ℕ, zero, suc, eqb, ltb}
use Rattle.ranges.specs.Least.{lowest}
use Rattle.table.specs.declared.Table.{Table}
use Rattle.numbers.specs.Numbers.{timer, client}
use Rattle.table.specs.Values.{kind_of}

-- whether slot i has the higher priority
unfoldable pub precedes : Table → ℕ → ℕ → Bool
precedes t i j = ltb (kind_of t i) (kind_of t j) || (eqb (kind_of t i) (kind_of t j) && ltb i j)

-- the lowest callback of the kinds from `kind` on, f of them, that passes: an index, or 0
unfoldable pub foremost_from : Table → (ℕ → Bool) → ℕ → ℕ → ℕ
foremost_from t p zero kind = 0
foremost_from t p (suc f) kind =
    elim (lowest (λ i. eqb (kind_of t i) kind && p i) t.count) [ zero ↦ foremost_from t p f (suc kind) | suc i ↦ suc i ]

-- the first callback in priority that passes: an index, or 0 where none does
abbrev pub foremost : Table → (ℕ → Bool) → ℕ
foremost t p = foremost_from t p client timer
