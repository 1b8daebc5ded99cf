-- The busy-window argument: in a run within the curves every completion comes within its bound, and no queue grows beyond a(W).
-- All rests on not_covered: while something waits, every supplied tick does a unit, so work that the supply covers is finished.
--   shorter        a run of fewer ticks
--   finished_mono, activated_mono   the counts do not fall
--   works          through a busy window every supplied tick does a unit
--   last_quiet     every time has a last quiet time before it
--   charged, spent, spent_lt   the cost of what starts in a window; the units done for it; fewer if one has not finished
--   not_covered    unfinished work in a busy window is more than the supply covers; the window need not begin quiet
--   recent         the last quiet time is less than W back
--   depth          after the arrivals of a tick at most a(W) instances of a callback are unfinished
--   done_by        the bound for any count of the instances charged
--   late           the bound of document 01's sheet
use mathlib.Core.Path.{◌≡◌, subst, sym}
use mathlib.Core.Logic.{◌⊎◌, inl, inr}
use Prim.Native.Nat.{ℕ, zero, suc, ◌+◌, ◌-◌, ◌≤◌, ◌<◌}
use native.Mathlib.Nat.{le_refl, le_of_lt, add-zero, add-suc, eq-or-lt_of_le}
use native.Mathlib.Decide.{ℕ_discrete}
use native.Mathlib.Omega.{arith}
use Rattle.ranges.specs.Sum.{sum}
use Rattle.curves.specs.Demand.{demand, limit}
use Rattle.curves.specs.Parts.{Rising}
use Rattle.ranges.proofs.SumLaws.{sum_lt, sum-add, le_or_lt, all_or_one, mono_upto}
use Rattle.curves.proofs.DemandLaws.{limit_own, limit_other}
use Rattle.busy_window.specs.Counts.{Counts, Quiet, Open, Busy, LastQuiet}
use Rattle.busy_window.specs.Run.{Run}
use Rattle.busy_window.specs.Within.{Within}
use Rattle.busy_window.specs.Bound.{Covers}

-- a run of N ticks is one of its first M
pub shorter : (n N M b : ℕ) (c : Counts) → M ≤ N → Run n N b c → Run n M b c
shorter n N M b c l r = record {
  fresh = r.fresh;
  activated_up = λ i t k h. r.activated_up i t k (omega arith);
  finished_up = λ i t k h. r.finished_up i t k (omega arith);
  begun = λ i t k h. r.begun i t k (omega arith);
  one_open = λ i t k h. r.one_open i t k (omega arith);
  done = λ i t k h. r.done i t k (omega arith);
  offered = λ i t k h. r.offered i t k (omega arith);
  left = λ i t k h. r.left i t k (omega arith);
  conserves = λ i t k h. r.conserves i t k (omega arith);
  blocked = λ t d h. r.blocked t d (omega arith);
}

module _ (n N b : ℕ) (c : Counts) (r : Run n N b c) where
  pub finished_mono : (i t u : ℕ) → i < n → t ≤ u → u ≤ N → c.finished i t ≤ c.finished i u
  finished_mono i t u l = mono_upto (c.finished i) N (λ x k. r.finished_up i x l k) t u

  pub activated_mono : (i t u : ℕ) → i < n → t ≤ u → u ≤ N → c.activated i t ≤ c.activated i u
  activated_mono i t u l = mono_upto (c.activated i) N (λ x k. r.activated_up i x l k) t u

  -- in ticks of which each ends with something waiting, every supplied one does a unit
  pub works : (t d : ℕ) → t + d ≤ N → Busy n c t (t + d)
      → c.supplied (t + d) + (sum n (λ j. c.units j t) + c.other t) ≤ c.supplied t + (sum n (λ j. c.units j (t + d)) + c.other (t + d))
  works t zero h o = rw add-zero (le_refl _)
  works t (suc d) h o = rw add-suc (omega (arith, works t d (omega arith) (λ u k m. o u k (omega arith)), last (o (suc (t + d)) (omega arith) (omega arith))))
    where
      last : Open n c (suc (t + d))
          → c.supplied (suc (t + d)) + (sum n (λ j. c.units j (t + d)) + c.other (t + d))
          ≤ c.supplied (t + d) + (sum n (λ j. c.units j (suc (t + d))) + c.other (suc (t + d)))
      last w = r.conserves w.0 (t + d) w.1 (omega arith) (omega (arith, r.finished_up w.0 (t + d) w.1 (omega arith), w.2))

  -- time 0 is quiet, so each time has a last quiet time before it
  pub last_quiet : (v : ℕ) → v ≤ N → LastQuiet n c v
  last_quiet zero h = (0, omega arith, r.fresh, λ u k m. absurd (omega arith))
  last_quiet (suc v) h = go (all_or_one (λ i. c.activated i (suc v)) (λ i. c.finished i (suc v)) n) (last_quiet v (omega arith))
    where
      go : Quiet n c (suc v) ⊎ Open n c (suc v) → LastQuiet n c v → LastQuiet n c (suc v)
      go (inl q) x = (suc v, le_refl _, q, λ u k m. absurd (omega arith))
      go (inr o) x = (x.0, omega arith, x.2, λ u k m. pick u k (eq-or-lt_of_le m))
        where
          pick : (u : ℕ) → x.0 < u → (u ≡ suc v) ⊎ (u < suc v) → Open n c u
          pick u k (inl p) = subst (λ (y : ℕ). Open n c y) (sym p) o
          pick u k (inr m) = x.3 u k (omega arith)

module _ (n N : ℕ) (c : Counts) (a e : ℕ → ℕ → ℕ) (s : ℕ → ℕ) (M : ℕ) (fits : M ≤ N) (b : ℕ) (r : Run n M b c)
    (w : Within n N M c a e s) (cv : Rising n a e) where
  -- the cost of what started by u, where at most m instances unfinished at t started before u
  pub charged : (i t u m : ℕ) → i < n → t ≤ u → u ≤ M → c.started i u ≤ c.finished i t + m → c.spent i u ≤ c.units i t + e i m
  charged i t u m l ht hu h = go (r.done i t l (omega arith))
    where
      go : (t₁ : ℕ) × (t₁ ≤ t) × (c.started i t₁ ≡ c.finished i t) × (c.spent i t₁ ≤ c.units i t) → c.spent i u ≤ c.units i t + e i m
      go x = omega (
        arith,
        x.3,
        w.charge i x.0 u l (omega (arith, x.1)) (omega arith),
        mono_upto (e i) m (λ k _. le_of_lt (cv.e_up i k l)) (c.started i u - c.started i x.0) m (omega (arith, x.2)) (le_refl m),
      )

  -- the units done for i between t and u
  pub spent : (i t u m : ℕ) → i < n → t ≤ u → u ≤ M → c.started i u ≤ c.finished i t + m → c.units i u ≤ c.units i t + e i m
  spent i t u m l ht hu h = omega (arith, r.offered i u l hu, charged i t u m l ht hu h)

  -- fewer, if at u one of the m has not finished, whether it has started or not
  pub spent_lt : (i t u m : ℕ) → i < n → t ≤ u → u ≤ M → c.started i u ≤ c.finished i t + m → c.finished i u < c.finished i t + m
      → c.units i u < c.units i t + e i m
  spent_lt i t u zero l ht hu h f = absurd (omega (arith, finished_mono n M b c r i t u l ht hu))
  spent_lt i t u (suc m) l ht hu h f = go (le_or_lt (c.finished i t + suc m) (c.started i u))
    where
      go : (c.finished i t + suc m ≤ c.started i u) ⊎ (c.started i u < c.finished i t + suc m) → c.units i u < c.units i t + e i (suc m)
      go (inl k) = omega (arith, r.left i u l hu (omega arith), charged i t u (suc m) l ht hu h)
      go (inr k) = omega (arith, spent i t u m l ht hu (omega arith), cv.e_up i m l)

  -- Between t and t + d something waits after each tick, at most m i instances of each i are unfinished at t and start,
  -- one of j's has not finished, and at most x units go to others: then the supply of d ticks does not cover them.
  pub not_covered : (t d j x : ℕ) (m : ℕ → ℕ) → t + d ≤ M → Busy n c t (t + d)
      → ((i : ℕ) → i < n → c.started i (t + d) ≤ c.finished i t + m i) → j < n → c.finished j (t + d) < c.finished j t + m j
      → c.other (t + d) ≤ c.other t + x → demand n e m + x ≤ s d → ⊥
  not_covered t d j x m h o g l f out cover =
      omega (
        arith,
        works n M b c r t d h o,
        w.supply t d (omega arith),
        sum-add (λ i. c.units i t) (λ i. e i (m i)) n,
        sum_lt (λ i. c.units i (t + d)) (λ i. c.units i t + e i (m i)) n j l (spent_lt j t (t + d) (m j) l (omega arith) h (g j l) f)
            (λ i k. spent i t (t + d) (m i) k (omega arith) h (g i k)),
      )

  module _ (W : ℕ) (pos : 0 < W) (settles : demand n e (λ i. a i W) + b ≤ s W) where
    -- a quiet time with a busy window up to v is less than W before v
    pub recent : (t v : ℕ) → v ≤ M → Quiet n c t → Busy n c t v → v < t + W
    recent t v hv q o = go (le_or_lt (t + W) v)
      where
        go : (t + W ≤ v) ⊎ (v < t + W) → v < t + W
        go (inr h) = h
        go (inl h) = absurd (not_covered t W x.0 b (λ i. a i W) (omega arith) busy
            (λ i l. omega (arith, r.begun i (t + W) l (omega arith), w.arrive i t W l (omega arith), q i l))
            x.1 (omega (arith, x.2, w.arrive x.0 t W x.1 (omega arith), q x.0 x.1)) (r.blocked t W (omega arith) q busy) settles)
          where
            busy : Busy n c t (t + W)
            busy u k m = o u k (omega arith)

            x : Open n c (t + W)
            x = o (t + W) (omega arith) (omega arith)

    -- what waits after the arrivals of tick t: the bound on queues
    pub depth : (i t : ℕ) → i < n → t ≤ M → t < N → c.activated i (suc t) ≤ c.finished i t + a i W
    depth i t l ht hn = go (last_quiet n M b c r t ht)
      where
        go : LastQuiet n c t → c.activated i (suc t) ≤ c.finished i t + a i W
        go x = omega (
          arith,
          rw same at (w.arrive i x.0 d l (omega arith)),
          x.2 i l,
          finished_mono n M b c r i x.0 t l x.1 ht,
          mono_upto (a i) W (λ k _. cv.a_up i k l) d W (omega (arith, recent x.0 t ht x.2 x.3)) (le_refl W),
        )
          where
            d : ℕ
            d = suc t - x.0

            same : x.0 + d ≡ suc t
            same = omega (arith, x.1)

    -- Something activated at v is done, or it is missing. While it is missing something waits, and from a quiet time t up to v
    -- at most `count` instances of each callback start, of which x has not finished all. Then it is done by v + R.
    pub done_by : (v R x : ℕ) (Done Missing : ℕ → Type 0) (count : ℕ → ℕ → ℕ → ℕ) → x < n
        → ((T : ℕ) → T ≤ M → Done T ⊎ Missing T)
        → ((u T : ℕ) → v < u → u ≤ T → T ≤ M → Missing T → Open n c u)
        → ((t D i : ℕ) → i < n → Quiet n c t → t ≤ v → t + D ≤ M → Missing (t + D) → c.started i (t + D) ≤ c.finished i t + count (v - t) D i)
        → ((t D : ℕ) → Quiet n c t → t ≤ v → t + D ≤ M → Missing (t + D) → c.finished x (t + D) < c.finished x t + count (v - t) D x)
        → Covers n e s b count W R → v + R ≤ M → (T : ℕ) × (T ≤ v + R) × Done T
    done_by v R x Done Missing count l check waits most short f h = from_quiet (last_quiet n M b c r v (omega arith))
      where
        from_quiet : LastQuiet n c v → (T : ℕ) × (T ≤ v + R) × Done T
        from_quiet y = at_length (f (v - t) (omega (arith, recent t v (omega arith) y.2 y.3)))
          where
            t : ℕ
            t = y.0

            at_length : (D : ℕ) × (demand n e (count (v - t) D) + b ≤ s D) × (D ≤ v - t + R) → (T : ℕ) × (T ≤ v + R) × Done T
            at_length z = decide (check (t + D) (omega (arith, ends)))
              where
                D : ℕ
                D = z.0

                ends : t + D ≤ v + R
                ends = omega (arith, z.2, y.1)

                decide : Done (t + D) ⊎ Missing (t + D) → (T : ℕ) × (T ≤ v + R) × Done T
                decide (inl g) = (t + D, ends, g)
                decide (inr g) = absurd (not_covered t D x b (count (v - t) D) (omega (arith, ends)) busy
                    (λ i k. most t D i k y.2 y.1 (omega (arith, ends)) g) l (short t D y.2 y.1 (omega (arith, ends)) g)
                    (r.blocked t D (omega (arith, ends)) y.2 busy) z.1)
                  where
                    busy : Busy n c t (t + D)
                    busy u p p' = split (le_or_lt u v)
                      where
                        split : (u ≤ v) ⊎ (v < u) → Open n c u
                        split (inl m) = y.3 u p m
                        split (inr m) = waits u (t + D) m p' (omega (arith, ends)) g

    -- the k-th activation of x's head is at time v: the k-th completion of x is there at time v + R or earlier
    pub late : (x v k R : ℕ) → x < n → v < N → c.activated x v < k → k ≤ c.activated x (suc v)
        → Covers n e s b (limit a x) W R → v + R ≤ M → k ≤ c.finished x (v + R)
    late x v k R l hv lo hi f h = ends (done_by v R x (λ T. k ≤ c.finished x T) (λ T. c.finished x T < k) (limit a x) l
        (λ T m. le_or_lt k (c.finished x T))
        (λ u T p q m g. (x, l, omega (arith, finished_mono n M b c r x u T l q m, activated_mono n M b c r x (suc v) u l p (omega arith))))
        most
        (λ t D q p m g. rw limit_own (omega (arith, own t q p))) f h)
      where
        ends : (T : ℕ) × (T ≤ v + R) × (k ≤ c.finished x T) → k ≤ c.finished x (v + R)
        ends y = omega (arith, y.2, finished_mono n M b c r x y.0 (v + R) l y.1 h)

        -- the k-th instance of x is within the first a(A + 1) after t
        own : (t : ℕ) → Quiet n c t → t ≤ v → k ≤ c.finished x t + a x (suc (v - t))
        own t q p = (let same : t + suc (v - t) ≡ suc v = omega arith in omega (arith, rw same at (w.arrive x t (suc (v - t)) l (omega arith)), q x l))

        most : (t D i : ℕ) → i < n → Quiet n c t → t ≤ v → t + D ≤ M → c.finished x (t + D) < k → c.started i (t + D) ≤ c.finished i t + limit a x (v - t) D i
        most t D i m q p d g = split (ℕ_discrete i x)
          where
            split : Dec (i ≡ x) → c.started i (t + D) ≤ c.finished i t + limit a x (v - t) D i
            split (yes z) = rw z (rw limit_own (omega (arith, own t q p, r.one_open x (t + D) l d)))
            split (no z) = rw (limit_other a x (v - t) D i z) (omega (arith, r.begun i (t + D) m d, w.arrive i t D m (omega arith), q i m))
