-- What a number R must cover to be a bound, and what a bound promises.
-- Covers: each offset has a length whose supply covers its demand, R past the offset at most. Answered: the promise.
use Rattle.std.specs.Prelude.{ℕ, suc, ◌+◌, ◌≤◌, ◌<◌}
use Rattle.curves.specs.Demand.{demand}
use Rattle.busy_window.specs.Counts.{Counts}

-- for each offset A below W some length D, D - A at most R, with s(D) at least b and the cost of the instances charged, count A D of each callback
abbrev pub Covers : ℕ → (ℕ → ℕ → ℕ) → (ℕ → ℕ) → ℕ → (ℕ → ℕ → ℕ → ℕ) → ℕ → ℕ → Type 0
Covers n e s b count W R = (A : ℕ) → A < W → (D : ℕ) × (demand n e (count A D) + b ≤ s D) × (D ≤ A + R)

-- the k-th activation of i's head at time v, v + R at most M: the k-th completion of i is there, at time v + R or earlier
abbrev pub Answered : ℕ → Counts → ℕ → ℕ → Type 0
Answered M c i R = (v k : ℕ) → c.activated i v < k → k ≤ c.activated i (suc v) → v + R ≤ M → k ≤ c.finished i (v + R)
