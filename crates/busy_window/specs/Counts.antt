-- What is counted before a time, and the times at which nothing waits. Callbacks are slots below n; time t counts the ticks 0 to t - 1.
-- Counts: the seven counts. Quiet, Open: nothing, something waits before tick t. Busy: something waits all through a window.
-- LastQuiet: where the busy window of a time begins.
use Rattle.std.specs.Prelude.{ℕ, ◌≤◌, ◌<◌}

-- counts over the ticks before a time, of a callback and of all
pub record Counts : Type 0 where
  -- activations of the head of i's chain
  pub activated : ℕ → ℕ → ℕ
  -- completions of i
  pub finished : ℕ → ℕ → ℕ
  -- instances of i started
  pub started : ℕ → ℕ → ℕ
  -- units done for i
  pub units : ℕ → ℕ → ℕ
  -- the cost of the started instances of i, added
  pub spent : ℕ → ℕ → ℕ
  -- supplied ticks
  pub supplied : ℕ → ℕ
  -- units done for others than the n callbacks: the room for a blocking term
  pub other : ℕ → ℕ

-- nothing waits before tick t: all that the heads activated has finished, at every callback
abbrev pub Quiet : ℕ → Counts → ℕ → Type 0
Quiet n c t = (i : ℕ) → i < n → c.activated i t ≤ c.finished i t

-- something waits before tick t, at some callback or on its way there
abbrev pub Open : ℕ → Counts → ℕ → Type 0
Open n c t = (i : ℕ) × (i < n) × (c.finished i t < c.activated i t)

-- no time after t and up to t' is quiet
abbrev pub Busy : ℕ → Counts → ℕ → ℕ → Type 0
Busy n c t t' = (u : ℕ) → t < u → u ≤ t' → Open n c u

-- the last quiet time up to v
abbrev pub LastQuiet : ℕ → Counts → ℕ → Type 0
LastQuiet n c v = (t : ℕ) × (t ≤ v) × Quiet n c t × Busy n c t v
