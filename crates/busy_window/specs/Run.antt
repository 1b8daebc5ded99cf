-- What the argument asks of an executor, and all that it asks. No field speaks of priorities, polling or chains.
use Rattle.std.specs.Prelude.{◌≡◌, ℕ, suc, ◌+◌, ◌≤◌, ◌<◌}
use Rattle.ranges.specs.Sum.{sum}
use Rattle.busy_window.specs.Counts.{Counts, Quiet, Busy}

-- N ticks of n callbacks; in a busy window that begins quiet at most b units go to others
pub record Run (n N b : ℕ) (c : Counts) : Type 0 where
  -- at time 0 nothing waits
  pub fresh : Quiet n c 0
  -- no count of activations or completions falls
  pub activated_up : (i t : ℕ) → i < n → t < N → c.activated i t ≤ c.activated i (suc t)
  pub finished_up : (i t : ℕ) → i < n → t < N → c.finished i t ≤ c.finished i (suc t)
  -- no instance starts before the activation of its head, nor before the instance ahead of it has finished
  pub begun : (i t : ℕ) → i < n → t ≤ N → c.started i t ≤ c.activated i t
  pub one_open : (i t : ℕ) → i < n → t ≤ N → c.started i t ≤ suc (c.finished i t)
  -- what has finished by t is what had started before some time t₁ up to t, and its whole cost is done
  pub done : (i t : ℕ) → i < n → t ≤ N → (t₁ : ℕ) × (t₁ ≤ t) × (c.started i t₁ ≡ c.finished i t) × (c.spent i t₁ ≤ c.units i t)
  -- no more is done than what started costs, and less while one runs
  pub offered : (i t : ℕ) → i < n → t ≤ N → c.units i t ≤ c.spent i t
  pub left : (i t : ℕ) → i < n → t ≤ N → c.finished i t < c.started i t → c.units i t < c.spent i t
  -- work conserving: a supplied tick does a unit if something waits after its arrivals
  pub conserves : (i t : ℕ) → i < n → t < N → c.finished i t < c.activated i (suc t)
      → c.supplied (suc t) + (sum n (λ j. c.units j t) + c.other t) ≤ c.supplied t + (sum n (λ j. c.units j (suc t)) + c.other (suc t))
  -- blocking: from a quiet time on, while something waits, at most b units are done for others
  pub blocked : (t d : ℕ) → t + d ≤ N → Quiet n c t → Busy n c t (t + d) → c.other (t + d) ≤ c.other t + b
