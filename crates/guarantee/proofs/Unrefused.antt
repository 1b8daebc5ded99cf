-- In a history within the curves no tick is refused, so the run of the tick is the run of its effect.
--   activated_to        activations of the heads of chains, before a time
--   pure, pure_runs    the counts of the run without refusals, and that they are a Run
--   none-foreign, orderly   only heads are in the masks
--   Agree, no_more, within   where the two runs agree so far, the history is within the curves for both, with the arrivals of the next tick
--   room, not-full     no waiting count exceeds 255 then
--   agree              so the next tick is not refused, and they agree at it too
use mathlib.Core.Path.{◌≡◌, refl, subst, sym, ap, ◌∙◌}
use mathlib.Core.Logic.{◌⊎◌, inl, inr}
use mathlib.Core.Bool.{Bool, true, false, cond, not, ◌&&◌, ◌||◌}
use mathlib.Core.List.{List}
use Prim.Native.Nat.{ℕ, zero, suc, ◌+◌, ◌*◌, ◌-◌, ◌≤◌, ◌<◌}
use native.Mathlib.Nat.{le_refl, eq-or-lt_of_le}
use native.Mathlib.Omega.{arith}
use lib.Dec.{T, eqb, ltb, leb}
use borrow.Author.Tests.{lt-ltb, lt-leb}
use lib.ListN.{length, get_or-eq_default}
use Rattle.masks.specs.Mask.{has}
use Rattle.masks.proofs.Slots.{has_zero}
use Rattle.ranges.specs.Sum.{sum, given, hit}
use Rattle.ranges.proofs.SumLaws.{sum-le, sum_same, sum-none, sum_window, le_or_lt}
use Rattle.ranges.proofs.LeastLaws.{lowest_never}
use Rattle.ranges.proofs.EveryLaws.{holds, T_holds, never_both}
use Rattle.table.proofs.WalkLaws.{rank}
use Rattle.table.specs.declared.Table.{Table}
use Rattle.numbers.specs.Numbers.{places, most_ticks, most_waiting}
use Rattle.table.specs.Values.{next_of}
use Rattle.table.specs.Links.{linked, is_head, foreign}
use Rattle.rules.specs.Parts.{Sound}
use Rattle.rules.proofs.Heads.{head_lt, head_self, head_is_head, rank_up}
use Rattle.busy_window.specs.Counts.{Counts, Quiet, Busy}
use Rattle.busy_window.specs.Run.{Run}
use Rattle.busy_window.specs.Within.{Within}
use Rattle.busy_window.specs.Flow.{fed, counts}
use Rattle.busy_window.proofs.Busy.{shorter, depth}
use Rattle.busy_window.proofs.Flow.{runs, behind}
use Rattle.busy_window.proofs.Chain.{given_no, chain_in}
use Rattle.executor.specs.declared.Machine.{Machine}
use Rattle.executor.specs.declared.Ticked.{Ticked}
use Rattle.queues.specs.Queues.{full_with}
use Rattle.folding.specs.Folding.{kept}
use Rattle.folding.proofs.FoldingLaws.{kept-has, kept_in_lem, kept_most}
use Rattle.answers.specs.Outcome.{callback_of}
use Rattle.executor.specs.State.{fresh, waiting_of}
use Rattle.executor.specs.Effect.{kept_in}
use Rattle.executor.specs.Tick.{next_activated, full, refused}
use Rattle.windows.proofs.TableLaws.{sound_rising}
use Rattle.guarantee.specs.History.{Tick, Result, result_of, ticked, results, tick_at, result_at, over_window, released_by, activates, activated_at, starts_at}
use Rattle.guarantee.specs.Within.{WithinCurves}
use Rattle.executor.specs.Parts.{Valid}
use Rattle.executor.proofs.ValidLaws.{faultless}
use Rattle.executor.proofs.TickLaws.{effect_folded, passes, not_refused}
use Rattle.executor.proofs.TickCases.{tick_cases}
use Rattle.guarantee.proofs.Ticks
use Rattle.guarantee.proofs.Ticks.{before, at, effected, events, states, Orderly}
use Rattle.guarantee.proofs.Analysed.{Analysed, chains, leads}
use Rattle.chains.specs.Chains.{head_of}
use Rattle.link_rules.proofs.Names.{head_unfed}
use Rattle.windows.specs.Bounds.{arrivals_of, cost_of, supply_of, window_of}

-- ---- heads

-- a head is activated by ticks
pub head_activated : (tb : Table) (h : List Tick) (r : List Result) (i t : ℕ) → T (is_head tb i) → activated_at tb h r i t ≡ activates (tick_at h t) (result_at r t) i
unfolding activated_at
head_activated tb h r i t x = go (is_head tb i) x
  where
    go : (b : Bool) → T b → cond b (activates (tick_at h t) (result_at r t) i) (released_by tb r i t) ≡ activates (tick_at h t) (result_at r t) i
    go true x = refl
    go false x = absurd x

given_times : (b : Bool) (x : ℕ) → given b x ≡ given b 1 * x
given_times true x = omega arith
given_times false x = omega arith

-- the curve of a chain is that of its head
chain_arrivals : (tb : Table) → Sound tb → (i : ℕ) → i < tb.count → arrivals_of tb (head_of tb i) ≡ arrivals_of tb i
unfolding arrivals_of
chain_arrivals tb so i l = rw (head_self tb (head_of tb i) (head_is_head tb so i l))

-- whoever is activated is in the mask
pub in_mask : (x : Tick) (y : Result) (i : ℕ) → T (activates x y i) → T (has x.mask i)
in_mask x y i e = T_holds _ (kept_in_lem x.mask y.folded i (holds _ e))

-- activations of the head of i's chain at times before t, in a history that says s
abbrev pub activated_to : Table → List Tick → (ℕ → Result) → ℕ → ℕ → ℕ
activated_to tb h s i t = sum t (λ u. given (activates (tick_at h u) (s u) (head_of tb i)) 1)

-- the counts of a history that says s
unfoldable pub read : Table → List Tick → (ℕ → Result) → Counts
read tb h s = counts (activated_to tb h s) (events h s)

module _ (tb : Table) (analysed : Analysed tb) (h : List Tick) (short : length h ≤ most_ticks)
    (w : WithinCurves tb h (results (fresh tb) h)) where
  abbrev n : ℕ
  n = tb.count

  -- 20
  none-foreign : (t : ℕ) → t < length h → foreign tb (tick_at h t).mask ≡ 0
  unfolding foreign
  none-foreign t l = lowest_never _ places (λ i k. none i (has (tick_at h t).mask i) refl)
    where
      none : (i : ℕ) (b : Bool) → has (tick_at h t).mask i ≡ b → (b && not (ltb i n && is_head tb i)) ≡ false
      none i false e = refl
      none i true e = (let a = w.heads i t l (T_holds _ e) in rw (lt-ltb i n a.0, holds (is_head tb i) a.1))

  pub orderly : Orderly tb h
  orderly = record { right = analysed.faultless; headed = none-foreign; priced = w.offers }

  abbrev m₀ : Machine
  m₀ = fresh tb

  -- what tick t says, without refusals and as it is
  abbrev free : ℕ → Result
  free t = result_of (at effected m₀ h t)

  abbrev real : ℕ → Result
  real = result_at (results m₀ h)

  -- nothing comes past the end of the list
  pub none_past : (i t : ℕ) → length h ≤ t → (y : Result) → ¬ (T (activates (tick_at h t) y i))
  unfolding tick_at
  none_past i t l y e = never_both _ (holds _ (in_mask (tick_at h t) y i e)) (ap (λ (x : Tick). has x.mask i) (get_or-eq_default h _ l) ∙ has_zero i)

  -- nobody that is named is activated by a tick
  heads_only : (p i u : ℕ) → p < n → i < n → T (linked tb p i) → given (activates (tick_at h u) (free u) i) 1 ≡ 0
  heads_only p i u hp hi x = given_no (activates (tick_at h u) (free u) i) 1 (λ y. go y (le_or_lt (length h) u))
    where
      go : T (activates (tick_at h u) (free u) i) → (length h ≤ u) ⊎ (u < length h) → ⊥
      go y (inl l) = none_past i u l (free u) y
      go y (inr l) = head_unfed tb i (holds _ (w.heads i u l (in_mask (tick_at h u) (free u) i y)).1) p hp x

  pub flows : (i t : ℕ) → i < n → activated_to tb h free i t ≡ sum t ((events h free).arrives i) + fed (linked tb) n (λ p. activated_to tb h free p t) i
  unfolding events
  flows i t l = chain_in n (linked tb) (head_of tb) (λ i u. given (activates (tick_at h u) (free u) i) 1) (chains tb analysed.sound) heads_only i t l

  abbrev pub pure : Counts
  pure = read tb h free

  no_other : (t d : ℕ) → t + d ≤ length h → Quiet n (counts (activated_to tb h free) (events h free)) t → Busy n (counts (activated_to tb h free) (events h free)) t (t + d)
      → (counts (activated_to tb h free) (events h free)).other (t + d) ≤ (counts (activated_to tb h free) (events h free)).other t + 0
  unfolding counts events
  no_other t d k _ _ = omega (arith, sum-none (λ u. 0) (t + d) (λ u _. refl))

  pub pure_runs : Run n (length h) 0 pure
  unfolding read
  pure_runs = runs n (length h) (linked tb) (events h free) (states (before effected m₀ h)) (Ticks.local tb h orderly)
      (activated_to tb h free) flows (rank (next_of tb) n) (rank_up tb analysed.sound) 0 no_other

  -- ---- where the two runs agree

  -- up to tick t they do
  abbrev Agree : ℕ → Type 0
  Agree t = (u : ℕ) → u < t → at ticked m₀ h u ≡ at effected m₀ h u

  same_state : (t : ℕ) → t ≤ length h → Agree t → before ticked m₀ h t ≡ before effected m₀ h t
  unfolding before
  same_state zero l g = refl
  same_state (suc t) l g = Ticks.next ticked m₀ h t l ∙ ap (λ (x : Ticked). x.machine) (g t (le_refl _)) ∙ sym (Ticks.next effected m₀ h t l)

  same_result : (t u : ℕ) → t ≤ length h → Agree t → u < t → real u ≡ free u
  same_result t u l g k = Ticks.results_at m₀ h u (omega arith) ∙ ap result_of (g u k)

  -- any count of what ticks say is the same
  same_sum : (f : ℕ → Result → ℕ) (t : ℕ) → t ≤ length h → Agree t → sum t (λ u. f u (real u)) ≡ sum t (λ u. f u (free u))
  same_sum f t l g = sum_same _ _ t (λ u k. ap (f u) (same_result t u l g k))

  -- and in the tick after those in which they agree, whatever becomes of it, no more are activated without refusals than as it is
  no_more : (t i : ℕ) → t < length h → Agree t → given (activates (tick_at h t) (free t) i) 1 ≤ given (activates (tick_at h t) (real t) i) 1
  unfolding at refused
  no_more t i l g =
      let x = tick_at h t in
      rw (Ticks.results_at m₀ h t l, same_state t (omega arith) g)
      (tick_cases (before effected m₀ h t) x.mask x.supplied x.cost (λ o. given (kept x.mask (free t).folded i) 1 ≤ given (kept x.mask o.folded i) 1)
      (λ _. le_refl _) (λ _. kept_most x.mask (free t).folded i))

  -- ---- within the curves, as counts

  module _ (t : ℕ) (g : Agree t) (N : ℕ) (fits : N ≤ length h) (next : N ≤ suc t) where
    fewer : (i u : ℕ) → u < N → given (activates (tick_at h u) (free u) i) 1 ≤ given (activates (tick_at h u) (real u) i) 1
    fewer i u l = no_more u i (omega arith) (λ v k. g v (omega arith))

    arrive : (i p d : ℕ) → i < n → p + d ≤ N → activated_to tb h free i (p + d) ≤ activated_to tb h free i p + arrivals_of tb i d
    arrive i p d l k = omega (
      arith,
      sum_window (λ u. given (activates (tick_at h u) (free u) (head_of tb i)) 1) p d,
      sum-le (λ u. given (activates (tick_at h (p + u)) (free (p + u)) (head_of tb i)) 1) (λ u. given (activates (tick_at h (p + u)) (real (p + u)) (head_of tb i)) 1) d
          (λ u b. fewer (head_of tb i) (p + u) (omega arith)),
      sum_same (λ u. given (activated_at tb h (results m₀ h) (head_of tb i) (p + u)) 1) (λ u. given (activates (tick_at h (p + u)) (real (p + u)) (head_of tb i)) 1) d
          (λ u _. ap (λ (b : Bool). given b 1) (head_activated tb h (results m₀ h) (head_of tb i) (p + u) (leads tb analysed.sound i l))),
      w.arrivals (head_of tb i) p d (head_lt tb i l) (leads tb analysed.sound i l) (omega arith),
      ap (λ (f : ℕ → ℕ). f d) (chain_arrivals tb analysed.sound i l),
    )

  supply : (t d : ℕ) → t + d ≤ length h → sum t (λ u. given (tick_at h u).supplied 1) + supply_of tb d ≤ sum (t + d) (λ u. given (tick_at h u).supplied 1)
  supply t d k = omega (arith, sum_window (λ u. given (tick_at h u).supplied 1) t d, w.supply t d k)

  -- starts and their costs, of what ticks say
  abbrev begins : ℕ → ℕ → Result → ℕ
  begins i u x = given (x.started && eqb (callback_of x.outcome) (suc i)) 1

  abbrev price : ℕ → ℕ → Result → ℕ
  price i u x = begins i u x * (tick_at h u).cost

  charge : (i t d : ℕ) → i < n → t + d ≤ length h
      → sum (t + d) (λ u. price i u (real u)) ≤ sum t (λ u. price i u (real u)) + cost_of tb i (sum (t + d) (λ u. begins i u (real u)) - sum t (λ u. begins i u (real u)))
  unfolding starts_at
  charge i t d l k = rw (gone) (omega (
    arith,
    sum_window (λ u. price i u (real u)) t d,
    sum_same (λ u. given (starts_at (results m₀ h) i (t + u)) (tick_at h (t + u)).cost) (λ u. price i (t + u) (real (t + u))) d
        (λ u _. given_times (starts_at (results m₀ h) i (t + u)) (tick_at h (t + u)).cost),
    w.costs i t d l k,
  ))
    where
      gone : sum (t + d) (λ u. begins i u (real u)) - sum t (λ u. begins i u (real u)) ≡ over_window (λ u. begins i u (real u)) t d
      gone = omega (arith, sum_window (λ u. begins i u (real u)) t d)

  -- the first t ticks in which they agree, and of the next, if there is one, its arrivals
  within : (t N : ℕ) → t ≤ length h → N ≤ length h → N ≤ suc t → Agree t → Within n N t pure (arrivals_of tb) (cost_of tb) (supply_of tb)
  unfolding read counts events
  within t N l fits next g = record { arrive = arrive t g N fits next; charge = charges; supply = λ p d k. supply p d (omega arith) }
    where
      charges : (i p q : ℕ) → i < n → p ≤ q → q ≤ t → sum q (λ u. price i u (free u)) ≤ sum p (λ u. price i u (free u))
          + cost_of tb i (sum q (λ u. begins i u (free u)) - sum p (λ u. begins i u (free u)))
      charges i p q k a b = rw (
        ← (same_sum (price i) q (omega arith) (λ u c. g u (omega arith))),
        ← (same_sum (price i) p (omega arith) (λ u c. g u (omega arith))),
        ← (same_sum (begins i) q (omega arith) (λ u c. g u (omega arith))),
        ← (same_sum (begins i) p (omega arith) (λ u c. g u (omega arith))),
      ) (subst (λ (x : ℕ). sum x (λ u. price i u (real u)) ≤ sum p (λ u. price i u (real u)) + cost_of tb i (sum x (λ u. begins i u (real u)) - sum p (λ u. begins i u (real u))))
          there (charge i p (q - p) k (omega arith)))
        where
          there : p + (q - p) ≡ q
          there = omega arith

  -- ---- no refusal

  abbrev W : ℕ
  W = window_of tb

  small : (i : ℕ) → i < n → arrivals_of tb i W ≤ most_waiting
  small i l = omega (arith, analysed.small (head_of tb i) (head_lt tb i l) (head_is_head tb analysed.sound i l), ap (λ (f : ℕ → ℕ). f W) (chain_arrivals tb analysed.sound i l))

  -- what waits before tick t, with what it adds
  room : (t : ℕ) → t < length h → Agree t → (j : ℕ) → j < n
      → waiting_of (before effected m₀ h t) j + (given (activates (tick_at h t) (free t) j) 1 + hit (next_activated tb (free t).outcome) j) ≤ most_waiting
  unfolding read counts events states sum
  room t l g j k = omega (
    arith,
    small j k,
    (Ticks.did tb h orderly t l).queue j (omega (arith, analysed.sound.few)),
    rw (Ticks.next effected m₀ h t l) at (behind n (length h) (linked tb) (events h free) (states (before effected m₀ h)) (Ticks.local tb h orderly)
        (activated_to tb h free) flows (rank (next_of tb) n) (rank_up tb analysed.sound) (suc (rank (next_of tb) n j)) j (suc t) (le_refl _) k l),
    depth n (suc t) pure (arrivals_of tb) (cost_of tb) (supply_of tb) t (omega arith) 0 (shorter n (length h) t 0 pure (omega arith) pure_runs)
        (within t (suc t) (omega arith) l (le_refl _) g) (sound_rising tb analysed.sound) W analysed.window analysed.supplied j t k (le_refl t) (le_refl _),
  )

  module _ (t : ℕ) (l : t < length h) (g : Agree t) where
    abbrev m : Machine
    m = before effected m₀ h t

    abbrev x : Tick
    x = tick_at h t

    valid : (m.table ≡ tb) × Valid m
    valid = Ticks.stays tb h orderly t (omega arith)

    -- beyond the table nothing waits
    beyond : (j : ℕ) → n ≤ j → j < places → waiting_of m j ≡ 0
    beyond j k l = (valid.1.beyond j (subst (λ (y : Table). y.count ≤ j) (sym valid.0) k) l).0

    few : (j : ℕ) → j < places → waiting_of m j ≤ most_waiting
    few j k = go (le_or_lt n j)
      where
        go : (n ≤ j) ⊎ (j < n) → waiting_of m j ≤ most_waiting
        go (inl b) = omega (arith, beyond j b k)
        go (inr b) = omega (arith, room t l g j b)

    -- those kept are those that it activates
    kept_is : (j : ℕ) → j < places → has (kept_in m x.mask) j ≡ activates x (free t) j
    unfolding at
    kept_is j k = kept-has x.mask _ j k ∙ ap (λ (f : ℕ). kept x.mask f j) (sym (effect_folded m x.mask x.supplied x.cost))

    -- 21
    none-full : full m x.mask x.supplied x.cost ≡ 0
    unfolding full full_with at hit
    none-full = lowest_never _ places (λ j k. none j k (has (kept_in m x.mask) j) refl (eqb (next_activated m.table (free t).outcome) (suc j)) refl)
      where
        -- one that comes finds room
        comes : (j : ℕ) → j < places → 0 < given (activates x (free t) j) 1 + given (eqb (next_activated m.table (free t).outcome) (suc j)) 1
            → leb most_waiting (waiting_of m j) ≡ false
        comes j k c = lt-leb most_waiting (waiting_of m j) (go (le_or_lt n j))
          where
            go : (n ≤ j) ⊎ (j < n) → waiting_of m j < most_waiting
            go (inl b) = omega (arith, beyond j b k)
            go (inr b) = omega (arith, room t l g j b, ap (λ (y : Table). given (eqb (next_activated y (free t).outcome) (suc j)) 1) valid.0)

        none : (j : ℕ) → j < places → (a : Bool) → has (kept_in m x.mask) j ≡ a → (b : Bool) → eqb (next_activated m.table (free t).outcome) (suc j) ≡ b
            → ((a || b) && leb most_waiting (waiting_of m j)) ≡ false
        none j k true p b q = comes j k (omega (arith, ap (λ (y : Bool). given y 1) (sym (kept_is j k) ∙ p)))
        none j k false p true q = comes j k (omega (arith, ap (λ (y : Bool). given y 1) q))
        none j k false p false q = refl

    -- the tick is not refused
    pub next_agrees : ticked m x ≡ effected m x
    next_agrees =
        sym
        (passes m x.mask x.supplied x.cost
        (not_refused m x.mask x.supplied x.cost (faultless m valid.1 few)
        (omega (arith, Ticks.ticked_count tb h orderly t (omega arith)))
        (w.offers t l)
        (ap (λ (y : Table). foreign y x.mask) valid.0 ∙ none-foreign t l)
        none-full))

  -- the two runs agree throughout
  pub agree : (t : ℕ) → t ≤ length h → Agree t
  unfolding at
  agree zero l u k = absurd (omega arith)
  agree (suc t) l u k = go (agree t (omega arith)) (eq-or-lt_of_le k)
    where
      go : Agree t → (suc u ≡ suc t) ⊎ (suc u < suc t) → at ticked m₀ h u ≡ at effected m₀ h u
      go g (inr b) = g u (omega arith)
      go g (inl b) = rw (now, same_state t (omega arith) g) (next_agrees t l g)
        where
          now : u ≡ t
          now = omega arith

  -- so what ticks say is what the run without refusals says
  pub same : (t u : ℕ) → t ≤ length h → u < t → real u ≡ free u
  same t u l k = same_result t u l (agree t l) k

  pub within_all : Within n (length h) (length h) pure (arrivals_of tb) (cost_of tb) (supply_of tb)
  within_all = within (length h) (length h) (le_refl _) (le_refl _) (omega arith) (agree (length h) (le_refl _))
