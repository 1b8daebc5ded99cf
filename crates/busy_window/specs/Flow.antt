-- What each tick does to each callback, in numbers that are 0 or 1, and the counts that these add up to.
-- Events: what ticks and their answers say. States: what the states between them hold. fed: what flows into a callback.
-- Local: how one state follows from the one before. counts: the events of the ticks before a time, added.
-- feeds p i: a completion of p activates i. Any such graph will do, also with several feeders of one callback.
use Rattle.std.specs.Prelude.{◌≡◌, Bool, ℕ, suc, ◌+◌, ◌*◌, ◌≤◌, ◌<◌}
use Rattle.ranges.specs.Sum.{sum, given}
use Rattle.busy_window.specs.Counts.{Counts}

-- what tick t and its answer say, of callback i and of the tick
pub record Events : Type 0 where
  -- 1 where i arrives
  pub arrives : ℕ → ℕ → ℕ
  -- 1 where an instance of i starts
  pub starts : ℕ → ℕ → ℕ
  -- 1 where the running instance, one of i, loses a unit
  pub works : ℕ → ℕ → ℕ
  -- 1 where an instance of i finishes
  pub finishes : ℕ → ℕ → ℕ
  -- 1 where the tick is supplied
  pub supply : ℕ → ℕ
  -- the cost of an instance that starts in the tick
  pub cost : ℕ → ℕ
  -- 1 where the tick does a unit for others than the n callbacks
  pub extra : ℕ → ℕ

-- what the state before tick t holds of callback i
pub record States : Type 0 where
  -- instances waiting: an instance waits until it finishes
  pub waiting : ℕ → ℕ → ℕ
  -- 1 where an instance of i runs
  pub running : ℕ → ℕ → ℕ
  -- the units left of that instance
  pub left : ℕ → ℕ → ℕ

-- g summed over the callbacks below n that feed i
unfoldable pub fed : (ℕ → ℕ → Bool) → ℕ → (ℕ → ℕ) → ℕ → ℕ
fed feeds n g i = sum n (λ p. given (feeds p i) (g p))

-- M ticks from a fresh state, each as document 01's 'One tick of the machine' has it
pub record Local (n M : ℕ) (feeds : ℕ → ℕ → Bool) (v : Events) (z : States) : Type 0 where
  -- a fresh state: nothing waits, nothing runs
  pub fresh_waiting : (i : ℕ) → i < n → z.waiting i 0 ≡ 0
  pub fresh_running : (i : ℕ) → i < n → z.running i 0 ≡ 0
  pub fresh-left : (i : ℕ) → i < n → z.left i 0 ≡ 0
  -- what arrives waits, what finishes leaves, and a completion activates whom it feeds
  pub queue : (i t : ℕ) → i < n → t < M → z.waiting i (suc t) + v.finishes i t ≡ z.waiting i t + (v.arrives i t + fed feeds n (λ p. v.finishes p t) i)
  -- what starts runs until it finishes, one instance at a time
  pub turn : (i t : ℕ) → i < n → t < M → z.running i (suc t) + v.finishes i t ≡ z.running i t + v.starts i t
  pub clear : (i t : ℕ) → i < n → t < M → z.running i (suc t) + v.finishes i t ≤ 1
  -- an instance that starts has the tick's cost as its units, and loses one in each tick that works for it
  pub work : (i t : ℕ) → i < n → t < M → z.left i (suc t) + v.works i t ≡ z.left i t + v.starts i t * v.cost t
  -- a running callback has one waiting, and a unit left; with nothing running no units are left
  pub waits : (i t : ℕ) → i < n → t ≤ M → z.running i t ≤ z.waiting i t
  pub has_left : (i t : ℕ) → i < n → t ≤ M → z.running i t ≤ z.left i t
  pub none_left : (i t : ℕ) → i < n → t ≤ M → z.running i t ≡ 0 → z.left i t ≡ 0
  -- a supplied tick works for one of the callbacks, or for others, if something waits after its arrivals
  pub conserve : (i t : ℕ) → i < n → t < M → 0 < z.waiting i t + v.arrives i t → v.supply t ≤ sum n (λ j. v.works j t) + v.extra t

-- the counts of these events, beside given activations of the heads
unfoldable pub counts : (ℕ → ℕ → ℕ) → Events → Counts
counts activated v = record {
  activated = activated;
  finished = λ i t. sum t (v.finishes i);
  started = λ i t. sum t (v.starts i);
  units = λ i t. sum t (v.works i);
  spent = λ i t. sum t (λ u. v.starts i u * v.cost u);
  supplied = λ t. sum t v.supply;
  other = λ t. sum t v.extra;
}
