-- Ticks that meet Local make a Run, whatever graph feeds the callbacks, as long as a rank rises along it.
--   fed-le, fed-add, fed_zero   laws of what flows into a callback
--   inflow, open_count, work_count   waiting, running and left, as differences of counts
--   running_le     at most one instance of a callback runs
--   done           what has finished is what had started before some time, and its cost is done
--   behind         what waits or has finished was activated at the head
--   emptied        where nothing waits after a tick's arrivals, all that was activated has finished
--   conserves      so a supplied tick does a unit where something activated has not finished
--   act_up, act_fresh   activations do not fall, and begin at 0
--   runs           the Run
use mathlib.Core.Path.{◌≡◌, refl, ap, ◌∙◌, fun_ext}
use mathlib.Core.Logic.{◌⊎◌, inl, inr}
use mathlib.Core.Bool.{Bool, true, false}
use Prim.Native.Nat.{ℕ, zero, suc, ◌+◌, ◌*◌, ◌≤◌, ◌<◌}
use native.Mathlib.Nat.{le_refl}
use native.Mathlib.Omega.{arith}
use lib.Dec.{T}
use Rattle.ranges.specs.Sum.{sum, given}
use Rattle.ranges.proofs.SumLaws.{sum-le, sum-add, le_or_lt, all_or_one}
use Rattle.busy_window.specs.Counts.{Quiet, Busy}
use Rattle.busy_window.specs.Run.{Run}
use Rattle.busy_window.specs.Flow.{Events, States, Local, fed, counts}

module _ (feeds : ℕ → ℕ → Bool) (n : ℕ) (g h : ℕ → ℕ) (i : ℕ) where
  pub fed-le : ((p : ℕ) → p < n → T (feeds p i) → g p ≤ h p) → fed feeds n g i ≤ fed feeds n h i
  unfolding fed
  fed-le f = sum-le _ _ n (λ p l. go p (feeds p i) (f p l))
    where
      go : (p : ℕ) (b : Bool) → (T b → g p ≤ h p) → given b (g p) ≤ given b (h p)
      go p true k = k tt
      go p false k = le_refl 0

  pub fed-add : fed feeds n (λ p. g p + h p) i ≡ fed feeds n g i + fed feeds n h i
  unfolding fed
  fed-add = ap (sum n) (fun_ext (λ p. go p (feeds p i))) ∙ sum-add _ _ n
    where
      go : (p : ℕ) (b : Bool) → given b (g p + h p) ≡ given b (g p) + given b (h p)
      go p true = refl
      go p false = refl

pub fed_zero : (feeds : ℕ → ℕ → Bool) (n i : ℕ) → fed feeds n (λ p. 0) i ≡ 0
unfolding fed sum
fed_zero feeds zero i = refl
fed_zero feeds (suc n) i = omega (arith, fed_zero feeds n i, go (feeds n i))
  where
    go : (b : Bool) → given b 0 ≡ 0
    go true = refl
    go false = refl

module _ (n M : ℕ) (feeds : ℕ → ℕ → Bool) (v : Events) (z : States) (l : Local n M feeds v z) where
  -- what came in is what waits and what has finished
  pub inflow : (i t : ℕ) → i < n → t ≤ M → z.waiting i t + sum t (v.finishes i) ≡ sum t (v.arrives i) + fed feeds n (λ p. sum t (v.finishes p)) i
  unfolding sum
  inflow i zero k h = omega (arith, l.fresh_waiting i k, fed_zero feeds n i)
  inflow i (suc t) k h = omega (
    arith,
    inflow i t k (omega arith),
    l.queue i t k h,
    fed-add feeds n (λ p. sum t (v.finishes p)) (λ p. v.finishes p t) i,
  )

  -- what started is what has finished and what runs
  pub open_count : (i t : ℕ) → i < n → t ≤ M → sum t (v.starts i) ≡ sum t (v.finishes i) + z.running i t
  unfolding sum
  open_count i zero k h = omega (arith, l.fresh_running i k)
  open_count i (suc t) k h = omega (arith, open_count i t k (omega arith), l.turn i t k h)

  -- the cost of what started is what was done and what is left
  pub work_count : (i t : ℕ) → i < n → t ≤ M → sum t (λ u. v.starts i u * v.cost u) ≡ sum t (v.works i) + z.left i t
  unfolding sum
  work_count i zero k h = omega (arith, l.fresh-left i k)
  work_count i (suc t) k h = omega (arith, work_count i t k (omega arith), l.work i t k h)

  pub running_le : (i t : ℕ) → i < n → t ≤ M → z.running i t ≤ 1
  running_le i zero k h = omega (arith, l.fresh_running i k)
  running_le i (suc t) k h = omega (arith, l.clear i t k h)

  -- what has finished by t, with its cost, as what had started before t₁
  abbrev Done : ℕ → ℕ → Type 0
  Done i t = (t₁ : ℕ) × (t₁ ≤ t) × (sum t₁ (v.starts i) ≡ sum t (v.finishes i)) × (sum t₁ (λ u. v.starts i u * v.cost u) ≤ sum t (v.works i))

  -- t₁ is the time of the last completion, when nothing of i ran
  pub done : (i t : ℕ) → i < n → t ≤ M → Done i t
  unfolding sum
  done i zero k h = (0, le_refl 0, refl, le_refl 0)
  done i (suc t) k h = go (le_or_lt 1 (v.finishes i t)) (done i t k (omega arith))
    where
      go : (1 ≤ v.finishes i t) ⊎ (v.finishes i t < 1) → Done i t → Done i (suc t)
      go (inl e) x = (
        suc t,
        le_refl _,
        omega (arith, open_count i (suc t) k h, l.clear i t k h),
        omega (arith, work_count i (suc t) k h, l.none_left i (suc t) k h (omega (arith, l.clear i t k h))),
      )
      go (inr e) x = (x.0, omega (arith, x.1), omega (arith, x.2), omega (arith, x.3))

  -- activations of heads flow as completions do, and a rank rises along the graph
  module _ (act : ℕ → ℕ → ℕ) (act-in : (i t : ℕ) → i < n → act i t ≡ sum t (v.arrives i) + fed feeds n (λ p. act p t) i)
      (rank : ℕ → ℕ) (ranked : (p i : ℕ) → p < n → i < n → T (feeds p i) → rank p < rank i) where
    -- what has not finished is here or on its way
    pub behind : (f i t : ℕ) → rank i < f → i < n → t ≤ M → z.waiting i t + sum t (v.finishes i) ≤ act i t
    behind zero i t r k h = absurd (omega arith)
    behind (suc f) i t r k h = omega (
      arith,
      act-in i t k,
      inflow i t k h,
      fed-le feeds n (λ p. sum t (v.finishes p)) (λ p. act p t) i (λ p m e. omega (arith, behind f p t (omega (arith, ranked p i m k e)) m h)),
    )

    pub act_up : (f i t : ℕ) → rank i < f → i < n → act i t ≤ act i (suc t)
    unfolding sum
    act_up zero i t r k = absurd (omega arith)
    act_up (suc f) i t r k = omega (
      arith,
      act-in i t k,
      act-in i (suc t) k,
      fed-le feeds n (λ p. act p t) (λ p. act p (suc t)) i (λ p m e. act_up f p t (omega (arith, ranked p i m k e)) m),
    )

    -- where nothing waits after the arrivals of tick t, all that was activated has finished
    pub emptied : (f i t : ℕ) → rank i < f → i < n → t ≤ M → ((j : ℕ) → j < n → z.waiting j t + v.arrives j t ≤ 0) → act i (suc t) ≤ sum t (v.finishes i)
    unfolding sum
    emptied zero i t r k h q = absurd (omega arith)
    emptied (suc f) i t r k h q = omega (
      arith,
      act-in i (suc t) k,
      inflow i t k h,
      q i k,
      fed-le feeds n (λ p. act p (suc t)) (λ p. sum t (v.finishes p)) i (λ p m e. emptied f p t (omega (arith, ranked p i m k e)) m h q),
    )

    -- a supplied tick does a unit if something activated has not finished
    pub conserves : (i t : ℕ) → i < n → t < M → sum t (v.finishes i) < act i (suc t)
        → sum (suc t) v.supply + (sum n (λ j. sum t (v.works j)) + sum t v.extra)
        ≤ sum t v.supply + (sum n (λ j. sum (suc t) (v.works j)) + sum (suc t) v.extra)
    unfolding sum
    conserves i t k h o = go (all_or_one (λ j. z.waiting j t + v.arrives j t) (λ j. 0) n)
      where
        go : ((j : ℕ) → j < n → z.waiting j t + v.arrives j t ≤ 0) ⊎ ((j : ℕ) × (j < n) × (0 < z.waiting j t + v.arrives j t))
            → sum t v.supply + v.supply t + (sum n (λ j. sum t (v.works j)) + sum t v.extra)
            ≤ sum t v.supply + (sum n (λ j. sum t (v.works j) + v.works j t) + (sum t v.extra + v.extra t))
        go (inl q) = absurd (omega (arith, emptied (suc (rank i)) i t (le_refl _) k (omega arith) q))
        go (inr x) = omega (arith, l.conserve x.0 t x.1 h x.2, sum-add (λ j. sum t (v.works j)) (λ j. v.works j t) n)

    pub act_fresh : (f i : ℕ) → rank i < f → i < n → act i 0 ≤ 0
    unfolding sum
    act_fresh zero i r k = absurd (omega arith)
    act_fresh (suc f) i r k = omega (
      arith,
      act-in i 0 k,
      fed_zero feeds n i,
      fed-le feeds n (λ p. act p 0) (λ p. 0) i (λ p m e. act_fresh f p (omega (arith, ranked p i m k e)) m),
    )

    -- the ticks of Local make a Run, given that others get at most b units in a busy window
    pub runs : (b : ℕ) → ((t d : ℕ) → t + d ≤ M → Quiet n (counts act v) t → Busy n (counts act v) t (t + d) → (counts act v).other (t + d) ≤ (counts act v).other t + b)
        → Run n M b (counts act v)
    unfolding counts sum
    runs b blk = record {
      fresh = λ i k. act_fresh (suc (rank i)) i (le_refl _) k;
      activated_up = λ i t k h. act_up (suc (rank i)) i t (le_refl _) k;
      finished_up = λ i t k h. omega arith;
      begun = λ i t k h. omega (arith, open_count i t k h, l.waits i t k h, behind (suc (rank i)) i t (le_refl _) k h);
      one_open = λ i t k h. omega (arith, open_count i t k h, running_le i t k h);
      done = done;
      offered = λ i t k h. omega (arith, work_count i t k h);
      left = λ i t k h o. omega (arith, work_count i t k h, open_count i t k h, l.has_left i t k h);
      conserves = conserves;
      blocked = blk;
    }
