-- A history tick by tick: the state before each tick, what each tick says, and the events that the busy-window argument counts.
--   before, at, next           the state before tick t, and tick t, of any way to tick
--   results_at                 what the claim's list of results says of tick t
--   events, states             what ticks and states say of each callback
--   Orderly, stays, did        a run without refusals stays valid, and each tick does what Stepped says
--   local                      so it is one that Flow takes
--   ticked_count, done_count   ticks taken and instances finished, as counts
use mathlib.Core.Path.{◌≡◌, refl, ap, ◌∙◌}
use mathlib.Core.Bool.{◌&&◌, false}
use mathlib.Core.List.{List, [], ◌∷◌}
use Prim.Native.Nat.{ℕ, zero, suc, ◌+◌, ◌*◌, ◌≤◌, ◌<◌}
use native.Mathlib.Nat.{zero-mul, add-zero}
use native.Mathlib.Decide.{ℕ_discrete}
use native.Mathlib.Omega.{arith}
use lib.Dec.{eqb}
use lib.ListN.{length, get_or-replicate}
use Rattle.ranges.specs.Sum.{sum, given, hit}
use Rattle.ranges.proofs.SumLaws.{hit_self, hit_other, hit-none, hit-le}
use Rattle.table.specs.declared.Table.{Table}
use Rattle.numbers.specs.Numbers.{places, longest}
use Rattle.table.specs.Links.{linked, foreign}
use Rattle.faults.specs.Faults.{table_fault}
use Rattle.rules.specs.Parts.{Sound}
use Rattle.busy_window.specs.Flow.{fed, Events, States, Local}
use Rattle.executor.specs.declared.Machine.{Machine}
use Rattle.executor.specs.declared.Ticked.{Ticked}
use Rattle.answers.specs.Outcome.{callback_of, finished_of}
use Rattle.executor.specs.State.{fresh, waiting_of, finished_at}
use Rattle.executor.specs.Effect.{effect}
use Rattle.executor.specs.Parts.{Valid}
use Rattle.executor.proofs.ValidLaws.{table_sound, fresh-table, fresh_valid}
use Rattle.executor.proofs.Steps.{Stepped, steps_over}
use Rattle.guarantee.specs.History.{Tick, Result, result_of, ticked, results, tick_at, result_at, activates}
use Rattle.guarantee.proofs.Fed.{fed_next}

-- ---- any way to tick

module _ (f : Machine → Tick → Ticked) where
  -- the state before tick t
  unfoldable pub before : Machine → List Tick → ℕ → Machine
  before m h zero = m
  before m [] (suc t) = m
  before m (x ∷ h) (suc t) = before (f m x).machine h t

  -- tick t
  unfoldable pub at : Machine → List Tick → ℕ → Ticked
  at m h t = f (before m h t) (tick_at h t)

  pub next : (m : Machine) (h : List Tick) (t : ℕ) → t < length h → before m h (suc t) ≡ (at m h t).machine
  unfolding at before tick_at
  next m [] t l = absurd (omega arith)
  next m (x ∷ h) zero l = refl
  next m (x ∷ h) (suc t) l = next (f m x).machine h t (omega arith)

pub results_at : (m : Machine) (h : List Tick) (t : ℕ) → t < length h → result_at (results m h) t ≡ result_of (at ticked m h t)
unfolding results at before tick_at result_at
results_at m [] t l = absurd (omega arith)
results_at m (x ∷ h) zero l = refl
results_at m (x ∷ h) (suc t) l = results_at (ticked m x).machine h t (omega arith)

-- what the ticks of h bring, and what they say, of each callback
unfoldable pub events : List Tick → (ℕ → Result) → Events
events h s = record {
  arrives = λ i t. given (activates (tick_at h t) (s t) i) 1;
  starts = λ i t. given ((s t).started && eqb (callback_of (s t).outcome) (suc i)) 1;
  works = λ i t. hit (callback_of (s t).outcome) i;
  finishes = λ i t. hit (finished_of (s t).outcome) i;
  supply = λ t. given (tick_at h t).supplied 1;
  cost = λ t. (tick_at h t).cost;
  extra = λ t. 0;
}

-- what the states hold of each callback
unfoldable pub states : (ℕ → Machine) → States
states z = record {
  waiting = λ i t. waiting_of (z t) i;
  running = λ i t. hit (z t).running i;
  left = λ i t. hit (z t).running i * (z t).units;
}

-- ---- a tick without refusals

abbrev pub effected : Machine → Tick → Ticked
effected m x = effect m x.mask x.supplied x.cost

module _ (m : Machine) (v : Valid m) (i : ℕ) where
  runner_waits : hit m.running i ≤ waiting_of m i
  runner_waits = go (ℕ_discrete m.running (suc i))
    where
      go : Dec (m.running ≡ suc i) → hit m.running i ≤ waiting_of m i
      go (yes e) = omega (arith, hit-le m.running i, (v.runner i e).1)
      go (no e) = omega (arith, hit_other m.running i e)

  runner_left : hit m.running i ≤ hit m.running i * m.units
  runner_left = go (ℕ_discrete m.running (suc i))
    where
      go : Dec (m.running ≡ suc i) → hit m.running i ≤ hit m.running i * m.units
      go (yes e) = rw (e, hit_self) (omega (arith, (v.measured i e).0))
      go (no e) = rw (hit_other m.running i e) (omega arith)

-- a history of ticks whose masks hold heads of a table without faults, and whose costs are in order
pub record Orderly (tb : Table) (h : List Tick) : Type 0 where
  pub right : table_fault tb ≡ false
  pub headed : (t : ℕ) → t < length h → foreign tb (tick_at h t).mask ≡ 0
  pub priced : (t : ℕ) → t < length h → (1 ≤ (tick_at h t).cost) × ((tick_at h t).cost ≤ longest)

module _ (tb : Table) (h : List Tick) (o : Orderly tb h) where
  so : Sound tb
  so = table_sound tb o.right

  -- the state before tick t, and what tick t says, from a fresh state
  abbrev pub state : ℕ → Machine
  state = before effected (fresh tb) h

  abbrev pub tick : ℕ → Ticked
  tick = at effected (fresh tb) h

  abbrev pub says : ℕ → Result
  says t = result_of (tick t)

  abbrev Did : ℕ → Type 0
  Did t = Stepped tb (state t) (tick_at h t).mask (tick_at h t).supplied (tick_at h t).cost (tick t)

  does : (t : ℕ) → t < length h → ((state t).table ≡ tb) × Valid (state t) → Did t
  unfolding at
  does t l v = steps_over tb (state t) v.0 v.1 (tick_at h t).mask (tick_at h t).cost (o.priced t l) (o.headed t l) (tick_at h t).supplied

  pub stays : (t : ℕ) → t ≤ length h → ((state t).table ≡ tb) × Valid (state t)
  unfolding before
  stays zero l = (fresh-table tb, fresh_valid tb o.right)
  stays (suc t) l = rw (next effected (fresh tb) h t l) (let d = does t l (stays t (omega arith)) in (d.held, d.valid))

  pub did : (t : ℕ) → t < length h → Did t
  did t l = does t l (stays t (omega arith))

  -- what comes in, with whom a completion feeds
  queue : (i t : ℕ) → i < tb.count → (l : t < length h) → waiting_of (tick t).machine i + hit (finished_of (tick t).outcome) i
      ≡ waiting_of (state t) i + (given (activates (tick_at h t) (says t) i) 1 + fed (linked tb) tb.count (hit (finished_of (tick t).outcome)) i)
  queue i t k l = omega (arith, (did t l).queue i (omega (arith, so.few)), fed_next tb tb.count (finished_of (tick t).outcome) i (did t l).whose)

  pub local : Local tb.count (length h) (linked tb) (events h says) (states state)
  unfolding events states before fresh
  local = record {
    fresh_waiting = λ i l. get_or-replicate {A = ℕ} places i 0 0 (omega (arith, so.few));
    fresh_running = λ i l. hit-none i;
    fresh-left = λ i l. rw hit-none (zero-mul 0);
    queue = λ i t l k. rw (next effected (fresh tb) h t k) (queue i t l k);
    turn = λ i t l k. rw (next effected (fresh tb) h t k) ((did t k).turn i);
    clear = λ i t l k. rw (next effected (fresh tb) h t k) ((did t k).clear i);
    work = λ i t l k. rw (next effected (fresh tb) h t k) ((did t k).work i);
    waits = λ i t l k. runner_waits (state t) (stays t k).1 i;
    has_left = λ i t l k. runner_left (state t) (stays t k).1 i;
    none_left = λ i t l k e. rw e (zero-mul _);
    conserve = λ i t l k w. rw add-zero ((did t k).conserve i l w);
  }

  -- ticks taken
  pub ticked_count : (t : ℕ) → t ≤ length h → (state t).clock ≡ t
  unfolding before fresh
  ticked_count zero l = refl
  ticked_count (suc t) l = rw (next effected (fresh tb) h t l) ((did t l).clock ∙ ap suc (ticked_count t (omega arith)))

  -- instances finished
  pub done_count : (i t : ℕ) → i < places → t ≤ length h → finished_at (state t) i ≡ sum t (λ u. hit (finished_of (tick u).outcome) i)
  unfolding before fresh sum
  done_count i zero k l = get_or-replicate {A = ℕ} places i 0 0 k
  done_count i (suc t) k l = rw (next effected (fresh tb) h t l) (omega (arith, (did t l).done i k, done_count i t k (omega arith)))
