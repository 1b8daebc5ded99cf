-- walk next k x: the index that k steps along `next` lead to from index x, 0 where the walk has ended.
-- `next` takes a slot (from 0) and gives an index (from 1), 0 at the end of a chain.
use Rattle.std.specs.Prelude.{ℕ, zero, suc}

-- k completions on: each completion activates next, where zero ends the chain
unfoldable pub walk : (ℕ → ℕ) → ℕ → ℕ → ℕ
walk next zero x = x
walk next (suc k) zero = 0
walk next (suc k) (suc i) = walk next k (next i)
