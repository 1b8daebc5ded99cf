-- The words of document 01, 'A history', read from a list of ticks and the list of their results alone.
-- Callbacks are slots here (from 0); instances, activations and completions are counted from 1; times run from tick 0.
use Rattle.std.specs.Prelude.{Bool, false, cond, ◌&&◌, List, [], ◌∷◌, ℕ, zero, suc, ◌+◌, T, eqb, get_or, ◌≡◌, Ok}
use Rattle.folding.specs.Folding.{kept}
use Rattle.ranges.specs.Sum.{sum, given}
use Rattle.table.specs.declared.Table.{Table}
use Rattle.table.specs.Links.{linked, is_head}
use Rattle.answers.specs.declared.Answer.TheVariants.{NoSupply}
use Rattle.answers.specs.Outcome.{Outcome, callback_of, instance_of, finished_of}
use Rattle.executor.specs.declared.Machine.{Machine}
use Rattle.executor.specs.declared.Ticked.{Ticked}
use Rattle.executor.specs.Tick.{tick_of}

-- one tick of a history: what it is given
pub record Tick : Type 0 where
  pub mask : ℕ
  pub supplied : Bool
  pub cost : ℕ

-- and its result: all that it gives beside the state that it hands on
pub record Result : Type 0 where
  pub outcome : Outcome
  pub started : Bool
  pub polled : Bool
  pub gathered : ℕ
  pub folded : ℕ

abbrev pub result_of : Ticked → Result
result_of x = record { outcome = x.outcome; started = x.started; polled = x.polled; gathered = x.gathered; folded = x.folded }

-- one tick of the machine
abbrev pub ticked : Machine → Tick → Ticked
ticked m x = tick_of m x.mask x.supplied x.cost

-- the results of a list of ticks from a state, each tick on the state that the one before it handed back
unfoldable pub results : Machine → List Tick → List Result
results m [] = []
results m (x ∷ h) = result_of (ticked m x) ∷ results (ticked m x).machine h

-- tick t of the list, and its result; past its end, where nothing is asked, a tick that brings and does nothing
unfoldable pub tick_at : List Tick → ℕ → Tick
tick_at h t = get_or h t (record { mask = 0; supplied = false; cost = 1 })

unfoldable pub result_at : List Result → ℕ → Result
result_at r t = get_or r t (record { outcome = Ok NoSupply; started = false; polled = false; gathered = 0; folded = 0 })

-- a window: f summed over D consecutive ticks from tick t on
abbrev pub over_window : (ℕ → ℕ) → ℕ → ℕ → ℕ
over_window f t D = sum D (λ u. f (t + u))

-- whether tick t answers that slot i finished
unfoldable pub completes_at : List Result → ℕ → ℕ → Bool
completes_at r i t = eqb (finished_of (result_at r t).outcome) (suc i)

-- whether tick t answers that a callback finished which names slot i as next
unfoldable pub releases_at : Table → List Result → ℕ → ℕ → Bool
releases_at tb r i t = elim (finished_of (result_at r t).outcome) [ zero ↦ false | suc p ↦ linked tb p i ]

-- activation of a follower: one time after such a tick
unfoldable pub released_by : Table → List Result → ℕ → ℕ → Bool
released_by tb r i zero = false
released_by tb r i (suc t) = releases_at tb r i t

-- whether a tick activates the head in slot i, by the tick and its result: its bit is in the mask, and its beat was not folded (document 02, U6)
abbrev pub activates : Tick → Result → ℕ → Bool
activates x y i = kept x.mask y.folded i

-- activation of a head by a tick, of a follower by that completion
unfoldable pub activated_at : Table → List Tick → List Result → ℕ → ℕ → Bool
activated_at tb h r i t = cond (is_head tb i) (activates (tick_at h t) (result_at r t) i) (released_by tb r i t)

-- activations of slot i at times before t
unfoldable pub activations : Table → List Tick → List Result → ℕ → ℕ → ℕ
activations tb h r i t = sum t (λ u. given (activated_at tb h r i u) 1)

-- the k-th activation of slot i is at time t
unfoldable pub Activation : Table → List Tick → List Result → ℕ → ℕ → ℕ → Type 0
Activation tb h r i k t = T (activated_at tb h r i t) × (activations tb h r i (suc t) ≡ k)

-- whether tick t says that an instance of slot i started
unfoldable pub starts_at : List Result → ℕ → ℕ → Bool
starts_at r i t = (result_at r t).started && eqb (callback_of (result_at r t).outcome) (suc i)

-- instance k of slot i starts at time t
unfoldable pub InstanceStarts : List Result → ℕ → ℕ → ℕ → Type 0
InstanceStarts r i k t = T (starts_at r i t) × (instance_of (result_at r t).outcome ≡ k)

-- ticks before t that answer finished slot i
unfoldable pub completions : List Result → ℕ → ℕ → ℕ
completions r i t = sum t (λ u. given (completes_at r i u) 1)

-- the k-th completion of slot i is at time t: one after the k-th tick that answers so
unfoldable pub Completion : List Result → ℕ → ℕ → ℕ → Type 0
Completion r i k zero = ⊥
Completion r i k (suc t) = T (completes_at r i t) × (completions r i (suc t) ≡ k)
