-- A set of the callbacks, by a test of their slots: the argument is one over any set, of which all callbacks are an instance.
-- only: the counts of a set, in which the rest are others. Urgent: what single ticks must be like for a set to go before the rest.
use Rattle.std.specs.Prelude.{◌≡◌, Bool, true, false, not, ℕ, ◌+◌, ◌≤◌, ◌<◌, T}
use Rattle.ranges.specs.Sum.{sum, given}
use Rattle.busy_window.specs.Counts.{Counts}
use Rattle.busy_window.specs.Flow.{Events, States}

-- the counts of the callbacks that pass k; what is done for the rest of the n is done for others
unfoldable pub only : ℕ → (ℕ → Bool) → Counts → Counts
only n k c = record {
  activated = λ i t. given (k i) (c.activated i t);
  finished = λ i t. given (k i) (c.finished i t);
  started = λ i t. given (k i) (c.started i t);
  units = λ i t. given (k i) (c.units i t);
  spent = λ i t. given (k i) (c.spent i t);
  supplied = c.supplied;
  other = λ t. c.other t + sum n (λ i. given (not (k i)) (c.units i t));
}

-- their arrivals
abbrev pub arrivals_only : (ℕ → Bool) → (ℕ → ℕ → ℕ) → ℕ → ℕ → ℕ
arrivals_only k a i d = given (k i) (a i d)

-- M ticks in which the callbacks that pass k go before the rest, but for an instance that has started
pub record Urgent (n M : ℕ) (feeds : ℕ → ℕ → Bool) (k : ℕ → Bool) (v : Events) (z : States) : Type 0 where
  -- one instance runs at a time, and has a unit in the tick in which it starts
  pub single : (i j t : ℕ) → i < n → j < n → t ≤ M → 0 < z.running i t → 0 < z.running j t → i ≡ j
  pub at_once : (i t : ℕ) → i < n → t < M → v.starts i t ≤ v.works i t
  -- no unit goes to others than the n callbacks
  pub no_other : (t : ℕ) → t < M → v.extra t ≡ 0
  -- nobody feeds the set
  pub unfed : (i : ℕ) → i < n → k i ≡ true → (p : ℕ) → p < n → ¬ (T (feeds p i))
  -- where one of the set waits after the arrivals, nobody else starts
  pub first : (i j t : ℕ) → i < n → j < n → t < M → k i ≡ true → k j ≡ false → 0 < z.waiting i t + v.arrives i t → v.starts j t ≡ 0
