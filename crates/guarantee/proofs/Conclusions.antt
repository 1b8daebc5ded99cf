-- The three conclusions of the claim, of a table that reader and analyser accept.
--   reached                a count that reaches k does so at one tick
--   first_sum, fed_sums    a sum without its first term; what flows into a callback, summed over time
--   activations_in         a callback's activations are its bits in the masks and the completions that release it
--   answers, starts_late   no tick is refused; no instance starts before its activation
--   Kept, kept_all         what a bound promises, as counts; one over all callbacks keeps it
--   in_time                so the k-th completion comes in time after the k-th activation of the head
use mathlib.Core.Path.{◌≡◌, refl, subst, sym, ap, ◌∙◌}
use mathlib.Core.Logic.{◌⊎◌, inl, inr}
use mathlib.Core.Bool.{Bool, true, false, cond}
use mathlib.Core.List.{List}
use Prim.Native.Nat.{ℕ, zero, suc, ◌+◌, ◌≤◌, ◌<◌}
use native.Mathlib.Nat.{le_refl, zero-add, add-zero}
use native.Mathlib.Omega.{arith}
use lib.Dec.{T, eqb}
use borrow.Author.Tests.{eqb-true}
use lib.ListN.{length}
use Rattle.std.specs.Prelude.{Ok}
use Rattle.ranges.specs.Sum.{sum, given, hit}
use Rattle.curves.specs.Demand.{limit}
use Rattle.ranges.proofs.SumLaws.{hit-none, sum_same, sum-none, le_or_lt}
use Rattle.ranges.proofs.EveryLaws.{holds, T_holds, and_holds}
use Rattle.table.specs.declared.Table.{Table}
use Rattle.table.specs.Links.{linked, is_head, next_after}
use Rattle.busy_window.specs.Bound.{Covers}
use Rattle.busy_window.specs.Flow.{fed, counts}
use Rattle.busy_window.proofs.Level.{in_set, alone}
use Rattle.busy_window.proofs.Flow.{inflow, fed-add, fed_zero}
use Rattle.busy_window.proofs.Chain.{given_no, fed-none}
use Rattle.answers.specs.declared.Answer.{Answer}
use Rattle.numbers.specs.Numbers.{most_ticks}
use Rattle.answers.specs.Outcome.{callback_of, instance_of, finished_of}
use Rattle.executor.specs.State.{fresh, waiting_of, finished_at}
use Rattle.windows.proofs.TableLaws.{sound_rising}
use Rattle.guarantee.specs.History.{Tick, Result, result_of, results, tick_at, result_at, completes_at, releases_at, released_by, activates, activated_at, activations, Activation, starts_at, InstanceStarts, completions, Completion}
use Rattle.guarantee.specs.Within.{WithinCurves}
use Rattle.guarantee.proofs.Fed.{fed_next}
use Rattle.guarantee.proofs.Ticks
use Rattle.guarantee.proofs.Ticks.{before, at, effected, events, states, Orderly}
use Rattle.guarantee.proofs.Analysed.{Analysed, leads}
use Rattle.guarantee.proofs.Unrefused
use Rattle.guarantee.proofs.Unrefused.{in_mask, activated_to, read, head_activated}
use Rattle.chains.specs.Chains.{head_of}
use Rattle.link_rules.proofs.Names.{head_unfed}
use Rattle.windows.specs.Bounds.{arrivals_of, cost_of, supply_of, window_of}

-- ---- counts

-- a count of at least k, k over 0, reaches k at a tick that passes
pub reached : (f : ℕ → Bool) (N k : ℕ) → 0 < k → k ≤ sum N (λ u. given (f u) 1)
    → (u : ℕ) × (u < N) × T (f u) × (sum (suc u) (λ u. given (f u) 1) ≡ k)
unfolding sum
reached f zero k pos l = absurd (omega arith)
reached f (suc N) k pos l = go (le_or_lt k (sum N (λ u. given (f u) 1))) (f N) refl (reached f N k pos)
  where
    go : (k ≤ sum N (λ u. given (f u) 1)) ⊎ (sum N (λ u. given (f u) 1) < k) → (b : Bool) → f N ≡ b
        → (k ≤ sum N (λ u. given (f u) 1) → (u : ℕ) × (u < N) × T (f u) × (sum u (λ u. given (f u) 1) + given (f u) 1 ≡ k))
        → (u : ℕ) × (u < suc N) × T (f u) × (sum u (λ u. given (f u) 1) + given (f u) 1 ≡ k)
    go (inl m) b e r = (let x = r m in (x.0, omega (arith, x.1), x.2, x.3))
    go (inr m) true e r = (N, le_refl _, subst T (sym e) tt, omega (arith, ap (λ (b : Bool). given b 1) e))
    go (inr m) false e r = absurd (omega (arith, ap (λ (b : Bool). given b 1) e))

-- the first term of a sum
first_sum : (f : ℕ → ℕ) (n : ℕ) → sum (suc n) f ≡ f 0 + sum n (λ u. f (suc u))
unfolding sum
first_sum f zero = omega arith
first_sum f (suc n) = omega (arith, first_sum f n)

-- what flows into i, summed over time
fed_sums : (feeds : ℕ → ℕ → Bool) (n i : ℕ) (g : ℕ → ℕ → ℕ) (t : ℕ) → sum t (λ u. fed feeds n (λ p. g p u) i) ≡ fed feeds n (λ p. sum t (g p)) i
unfolding sum
fed_sums feeds n i g zero = sym (fed_zero feeds n i)
fed_sums feeds n i g (suc t) = omega (arith, fed_sums feeds n i g t, fed-add feeds n (λ p. sum t (g p)) (λ p. g p t) i)

-- a completion of index x releases i where x names i
releases_hit : (tb : Table) (i x : ℕ) → given (elim x [ zero ↦ false | suc p ↦ linked tb p i ]) 1 ≡ hit (next_after tb x) i
unfolding hit linked next_after
releases_hit tb i zero = sym (hit-none i)
releases_hit tb i (suc p) = refl

module _ (tb : Table) (analysed : Analysed tb) (h : List Tick) (short : length h ≤ most_ticks)
    (w : WithinCurves tb h (results (fresh tb) h)) where
  abbrev n : ℕ
  n = tb.count

  abbrev r : List Result
  r = results (fresh tb) h

  abbrev free : ℕ → Result
  free t = result_of (at effected (fresh tb) h t)

  same : (t u : ℕ) → t ≤ length h → u < t → result_at r u ≡ free u
  same = Unrefused.same tb analysed h short w

  orderly : Orderly tb h
  orderly = Unrefused.orderly tb analysed h short w

  -- ---- no tick is refused

  pub answers : (t : ℕ) → t < length h → (a : Answer) × ((result_at r t).outcome ≡ Ok a)
  answers t l =
      let d = (Ticks.did tb h orderly t l).answers in
      (d.0, ap (λ (x : Result). x.outcome) (same (suc t) t l (le_refl _)) ∙ d.1)

  -- ---- no instance starts before its activation

  -- completions of p before t, of the run without refusals
  abbrev done : ℕ → ℕ → ℕ
  done p t = sum t (λ u. hit (finished_of (free u).outcome) p)

  -- whether tick t activates i, of the same run
  abbrev brings : ℕ → ℕ → ℕ
  brings i t = given (activates (tick_at h t) (free t) i) 1

  -- the completions that release i
  releases_in : (i t : ℕ) → t ≤ length h → sum t (λ u. given (releases_at tb r i u) 1) ≡ fed (linked tb) n (λ p. done p t) i
  unfolding releases_at
  releases_in i t l = sum_same _ _ t each ∙ fed_sums (linked tb) n i (λ p u. hit (finished_of (free u).outcome) p) t
    where
      each : (u : ℕ) → u < t
          → given (elim (finished_of (result_at r u).outcome) [ zero ↦ false | suc p ↦ linked tb p i ]) 1 ≡ fed (linked tb) n (λ p. hit (finished_of (free u).outcome) p) i
      each u k =
          ap (λ (x : Result). given (elim (finished_of x.outcome) [ zero ↦ false | suc p ↦ linked tb p i ]) 1) (same t u l k)
          ∙ releases_hit tb i (finished_of (free u).outcome)
          ∙ sym (fed_next tb n (finished_of (free u).outcome) i (Ticks.did tb h orderly u (omega arith)).whose)

  -- a release is an activation one tick later
  released_in : (i t : ℕ) → t ≤ length h → sum (suc t) (λ u. given (released_by tb r i u) 1) ≡ fed (linked tb) n (λ p. done p t) i
  unfolding released_by
  released_in i t l = first_sum (λ u. given (released_by tb r i u) 1) t ∙ zero-add _ ∙ releases_in i t l

  activations_in : (i t : ℕ) → t < length h
      → activations tb h r i (suc t) ≡ sum (suc t) (brings i) + fed (linked tb) n (λ p. done p t) i
  unfolding activations activated_at
  activations_in i t l = go (is_head tb i) refl
    where
      go : (b : Bool) → is_head tb i ≡ b
          → sum (suc t) (λ u. given (cond (is_head tb i) (activates (tick_at h u) (result_at r u) i) (released_by tb r i u)) 1)
          ≡ sum (suc t) (brings i) + fed (linked tb) n (λ p. done p t) i
      go true e =
          rw (e, fed-none (linked tb) i (λ p. done p t) n (head_unfed tb i e), add-zero)
          (sum_same _ _ (suc t) (λ u k. ap (λ (y : Result). given (activates (tick_at h u) y i) 1) (same (suc t) u l k)))
      go false e = rw (e, sum-none (brings i) (suc t) absent, zero-add) (released_in i t (omega arith))
        where
          absent : (u : ℕ) → u < suc t → brings i u ≡ 0
          absent u k = given_no (activates (tick_at h u) (free u) i) 1 (λ x. subst T e (w.heads i u (omega arith) (in_mask (tick_at h u) (free u) i x)).1)

  -- what came in by the end of tick t's arrivals waits or has finished
  flow_in : (i t : ℕ) → i < n → t ≤ length h → waiting_of (before effected (fresh tb) h t) i + done i t + brings i t
      ≡ sum (suc t) (brings i) + fed (linked tb) n (λ p. done p t) i
  unfolding sum events states
  flow_in i t l k = omega (arith, inflow n (length h) (linked tb) (events h free) (states (before effected (fresh tb) h)) (Ticks.local tb h orderly) i t l k)

  pub starts_late : (i k t : ℕ) → i < n → t < length h → InstanceStarts r i k t → k ≤ activations tb h r i (suc t)
  unfolding InstanceStarts starts_at
  starts_late i k t l b x = omega (
    arith,
    x.1,
    ap (λ (y : Result). instance_of y.outcome) now,
    named_in.1,
    named_in.2,
    Ticks.done_count tb h orderly i t (omega (arith, analysed.sound.few)) (omega arith),
    arrived_or_waiting,
    activations_in i t b,
  )
    where
      now : result_at r t ≡ free t
      now = same (suc t) t b (le_refl _)

      named_in : (i < n) × (0 < waiting_of (before effected (fresh tb) h t) i + brings i t)
          × (instance_of (free t).outcome ≡ suc (finished_at (before effected (fresh tb) h t) i))
      named_in = (Ticks.did tb h orderly t b).names i
          (sym (ap (λ (y : Result). callback_of y.outcome) now)
          ∙ eqb-true (callback_of (result_at r t).outcome) (suc i) (and_holds (result_at r t).started (eqb (callback_of (result_at r t).outcome) (suc i)) (holds _ x.0)).1)

      arrived_or_waiting : waiting_of (before effected (fresh tb) h t) i + done i t + brings i t ≡ sum (suc t) (brings i) + fed (linked tb) n (λ p. done p t) i
      arrived_or_waiting = flow_in i t l (omega arith)

  -- ---- every completion in time

  -- the k-th activation of the head of i's chain, as counts
  activated_is : (i t : ℕ) → i < n → t ≤ length h → activations tb h r (head_of tb i) t ≡ activated_to tb h free i t
  unfolding activations
  activated_is i t l b =
      sum_same _ _ t
      (λ u k. ap (λ (x : Bool). given x 1) (head_activated tb h r (head_of tb i) u (leads tb analysed.sound i l) ∙ ap (λ (y : Result). activates (tick_at h u) y (head_of tb i)) (same t u b k)))

  completions-same : (i t : ℕ) → t ≤ length h → completions r i t ≡ done i t
  unfolding completions completes_at hit
  completions-same i t l = sum_same _ _ t (λ u k. ap (λ (x : Result). given (eqb (finished_of x.outcome) (suc i)) 1) (same t u l k))

  one_more : (i v : ℕ) → activates (tick_at h v) (free v) (head_of tb i) ≡ true → suc (activated_to tb h free i v) ≡ activated_to tb h free i (suc v)
  unfolding sum
  one_more i v e = omega (arith, ap (λ (b : Bool). given b 1) e)

  completion_at : (i k u : ℕ) → T (completes_at r i u) → sum (suc u) (λ u. given (completes_at r i u) 1) ≡ k → Completion r i k (suc u)
  unfolding Completion completions
  completion_at i k u x e = (x, e)

  -- what a number R promises of callback i, as counts
  abbrev pub Kept : ℕ → ℕ → Type 0
  Kept i R = (v k : ℕ) → v < length h → activated_to tb h free i v < k → k ≤ activated_to tb h free i (suc v) → v + R ≤ length h → k ≤ done i (v + R)

  -- a bound over all callbacks keeps its promise
  pub kept_all : (i R : ℕ) → i < n → Covers n (cost_of tb) (supply_of tb) 0 (limit (arrivals_of tb) i) (window_of tb) R → Kept i R
  unfolding read counts events
  kept_all i R l cover v k hv lo hi end =
      let pure = read tb h free in
      let run = Unrefused.pure_runs tb analysed h short w in
      in_set n (λ _. true) pure (length h) (arrivals_of tb) (cost_of tb) (supply_of tb) (length h) (le_refl _) 0 0 run (Unrefused.within_all tb analysed h short w)
      (sound_rising tb analysed.sound) (alone n (length h) 0 pure run) (window_of tb) analysed.window analysed.supplied i v k R l refl hv lo hi cover end

  pub in_time : (i k v R : ℕ) → i < n → Kept i R → Activation tb h r (head_of tb i) k v → v + R ≤ length h → (t : ℕ) × (t ≤ v + R) × Completion r i k t
  unfolding Activation completions
  in_time i k v R l kept x end = found (reached (completes_at r i) (v + R) k (omega (arith, before_k)) enough)
    where
      at_v : activates (tick_at h v) (result_at r v) (head_of tb i) ≡ true
      at_v = sym (head_activated tb h r (head_of tb i) v (leads tb analysed.sound i l)) ∙ holds _ x.0

      in_list : v < length h
      in_list = go (le_or_lt (length h) v)
        where
          go : (length h ≤ v) ⊎ (v < length h) → v < length h
          go (inl m) = absurd (Unrefused.none_past tb analysed h short w (head_of tb i) v m (result_at r v) (T_holds _ at_v))
          go (inr m) = m

      is_k : activated_to tb h free i (suc v) ≡ k
      is_k = sym (activated_is i (suc v) l in_list) ∙ x.1

      before_k : suc (activated_to tb h free i v) ≡ k
      before_k = one_more i v (ap (λ (y : Result). activates (tick_at h v) y (head_of tb i)) (sym (same (suc v) v in_list (le_refl _))) ∙ at_v) ∙ is_k

      enough : k ≤ sum (v + R) (λ u. given (completes_at r i u) 1)
      enough = rw (completions-same i (v + R) end) (kept v k in_list (omega (arith, before_k)) (omega (arith, is_k)) end)

      found : (u : ℕ) × (u < v + R) × T (completes_at r i u) × (sum (suc u) (λ u. given (completes_at r i u) 1) ≡ k) → (t : ℕ) × (t ≤ v + R) × Completion r i k t
      found y = (suc y.0, y.1, completion_at i k y.0 y.2 y.3)
