-- Laws of levels.
--   all_window, all_bound     all callbacks are a level, with nobody below it
--   not_below, below_is       a slot is in its own level; who is below it has the lower priority
--   blocked_by                B is at least E(1), less 1, of whoever is below
--   level_window              where there is a window, a level has its own, which is not longer
--   bound_first, bound_second, bound_either   the number in the row: the bound over all, or the smaller of two
--   bound_under               it is never above the bound over all
use mathlib.Core.Path.{◌≡◌, refl, ap, ap₂, ◌∙◌, fun_ext}
use mathlib.Core.Logic.{◌⊎◌, inl, inr, ◌≢◌}
use mathlib.Core.Bool.{Bool, true, false, not, ◌&&◌, ◌||◌, and-false}
use Prim.Native.Nat.{ℕ, suc, ◌+◌, ◌≤◌, ◌<◌, min}
use native.Mathlib.Nat.{le_refl}
use native.Mathlib.Omega.{arith}
use lib.Dec.{eqb}
use borrow.Author.Tests.{le-ltb}
use Rattle.masks.specs.Mask.{has}
use Rattle.masks.proofs.Slots.{has_zero}
use Rattle.masks.proofs.Gather.{gather_in}
use Rattle.ranges.specs.Sum.{sum, given}
use Rattle.ranges.specs.Least.{largest}
use Rattle.ranges.proofs.SumLaws.{le_or_lt, sum-le, sum_gap, given-le}
use Rattle.ranges.proofs.LeastLaws.{largest-le, largest-hit}
use Rattle.curves.proofs.ArrivalsLaws.{arrivals_first}
use Rattle.curves.proofs.DemandLaws.{arrivals_upto, cost_upto}
use Rattle.table.specs.declared.Callback.{Callback}
use Rattle.table.specs.declared.Table.{Table}
use Rattle.table.specs.Values.{callback_at, kind_of, horizon_of}
use Rattle.chains.specs.Chains.{head_of}
use Rattle.rules.specs.Parts.{Sound}
use Rattle.priority.specs.Priority.{precedes}
use Rattle.windows.specs.declared.Level.{Level}
use Rattle.windows.specs.Window.{window, bound}
use Rattle.windows.specs.Bounds.{arrivals_of, cost_of, supply_of, window_of, bound_of_all, arrivals_in, window_in, bound_in, everyone}
use Rattle.windows.specs.Parts.{work_in}
use Rattle.windows.proofs.WindowLaws.{window_settles, window_by}
use Rattle.windows.proofs.TableLaws.{spaced, sound_rising}
use Rattle.windows.proofs.PartLaws.{skipped}
use Rattle.levels.specs.Levels.{overtakes, lower_than, blocking_by, level_of, window_of_level, bound_of_level, bound_of}

-- ---- all callbacks

module _ (t : Table) where
  all_arrivals : arrivals_in t (everyone t) ≡ arrivals_of t
  unfolding arrivals_in
  all_arrivals = fun_ext (λ i. fun_ext (λ D. ap (λ (b : Bool). given (not b) (arrivals_of t i D)) (has_zero i)))

  pub all_window : window_in t (everyone t) ≡ window_of t
  unfolding window_in window_of
  all_window = ap (λ (a : ℕ → ℕ → ℕ). window t.count a (cost_of t) (supply_of t) 0 (horizon_of t)) all_arrivals

  pub all_bound : (i : ℕ) → bound_in t (everyone t) i ≡ bound_of_all t i
  unfolding bound_in bound_of_all
  all_bound i = ap (λ (a : ℕ → ℕ → ℕ). bound t.count a (cost_of t) (supply_of t) 0 (horizon_of t) i) all_arrivals

-- ---- who is below

module _ (t : Table) (x : ℕ) where
  not_first : precedes t x x ≡ false
  unfolding precedes
  not_first =
      ap₂ (λ (a b : Bool). a || (eqb (kind_of t x) (kind_of t x) && b)) (le-ltb (kind_of t x) (kind_of t x) (le_refl _)) (le-ltb x x (le_refl x))
      ∙ and-false (eqb (kind_of t x) (kind_of t x))

  pub below_is : (i : ℕ) → i < t.count → has (lower_than t x) i ≡ precedes t x i
  unfolding lower_than
  below_is i l = gather_in (precedes t x) t.count i l

  pub not_below : x < t.count → has (lower_than t x) x ≡ false
  not_below l = below_is x l ∙ not_first

-- ---- what they may take

pub blocked_by : (t : Table) (below i : ℕ) → i < t.count → has below i ≡ true → cost_of t i 1 ≤ suc (blocking_by t below)
unfolding blocking_by
blocked_by t below i l e =
    let f : ℕ → ℕ = λ j. given (has below j) (cost_of t j 1) in
    omega (arith, largest-le f t.count i l, ap (λ (b : Bool). given b (cost_of t i 1)) e)

-- ---- the own window

module _ (t : Table) (so : Sound t) (v : Level) where
  -- in a window each callback has an instance
  arrives : (i W : ℕ) → i < t.count → 0 < W → 1 ≤ arrivals_of t i W
  unfolding arrivals_of
  arrives i W l p =
      let c : Callback = callback_at t (head_of t i) in
      let s = spaced t so i l in
      omega (arith, arrivals_first c.period c.jitter c.distance s.period_some s.distance_some, arrivals_upto t.count (arrivals_of t) (cost_of t) (sound_rising t so) i 1 W l p)

  -- a level charges nobody more than the whole table does
  fewer : (i W : ℕ) → i < t.count → work_in t v W i ≤ cost_of t i (arrivals_of t i W)
  unfolding work_in arrivals_in
  fewer i W l = cost_upto t.count (arrivals_of t) (cost_of t) (sound_rising t so) i _ _ l (given-le (not (has v.below i)) (arrivals_of t i W))

  abbrev all : ℕ → ℕ → ℕ
  all W i = cost_of t i (arrivals_of t i W)

  -- B and its demand are within the demand of all: whoever B comes from is not charged in the level
  abbrev Fits : ℕ → Type 0
  Fits W = v.blocking + sum t.count (work_in t v W) ≤ sum t.count (all W)

  within_all : v.blocking ≡ blocking_by t v.below → (W : ℕ) → 0 < W → Fits W
  unfolding blocking_by
  within_all e W p = go (le_or_lt (largest t.count f) 0)
    where
      f : ℕ → ℕ
      f = λ j. given (has v.below j) (cost_of t j 1)

      from : (i : ℕ) → i < t.count → f i ≡ largest t.count f → 0 < largest t.count f → (b : Bool) → has v.below i ≡ b → Fits W
      from i l h m true q = omega (
        arith,
        sum_gap (work_in t v W) (all W) (cost_of t i 1) t.count i l
            (omega (arith, skipped t v so W i l q, cost_upto t.count (arrivals_of t) (cost_of t) (sound_rising t so) i 1 _ l (arrives i W l p)))
            (λ j k. fewer j W k),
        ap (λ (b : Bool). given b (cost_of t i 1)) q,
      )
      from i l h m false q = absurd (omega (arith, ap (λ (b : Bool). given b (cost_of t i 1)) q))

      go : (largest t.count f ≤ 0) ⊎ (0 < largest t.count f) → Fits W
      go (inl z) = omega (arith, sum-le (work_in t v W) (all W) t.count (λ i l. fewer i W l))
      go (inr m) = (let h = largest-hit f t.count m in from h.0 h.1 h.2 m (has v.below h.0) refl)

-- the own window of a slot is there wherever W is, and not longer: so it is the least positive length of all
pub level_window : (t : Table) → Sound t → (x : ℕ) → window_of t ≢ 0 → (0 < window_of_level t x) × (window_of_level t x ≤ window_of t)
unfolding window_of window_of_level window_in level_of work_in
level_window t so x some =
    let w = window_settles t.count (arrivals_of t) (cost_of t) (supply_of t) 0 (horizon_of t) some in
    let v : Level = level_of t x in
    window_by t.count (arrivals_in t v) (cost_of t) (supply_of t) v.blocking (window_of t) (window_of t) w.0 (le_refl _)
    (omega (arith, w.2, within_all t so v refl (window_of t) w.0))

-- ---- the number in the row

module _ (t : Table) (i : ℕ) where
  -- who gets one bound, and who two
  pub bound_first : overtakes t i ≡ false → bound_of t i ≡ bound_of_all t i
  unfolding bound_of
  bound_first e = rw (bound_of, e)

  pub bound_second : overtakes t i ≡ true → bound_of t i ≡ min (bound_of_all t i) (bound_of_level t i)
  unfolding bound_of
  bound_second e = rw (bound_of, e)

  pub bound_either : (bound_of t i ≡ bound_of_all t i) ⊎ ((overtakes t i ≡ true) × (bound_of t i ≡ bound_of_level t i))
  bound_either = go (overtakes t i) refl (le_or_lt (bound_of_all t i) (bound_of_level t i))
    where
      go : (b : Bool) → overtakes t i ≡ b → (bound_of_all t i ≤ bound_of_level t i) ⊎ (bound_of_level t i < bound_of_all t i)
          → (bound_of t i ≡ bound_of_all t i) ⊎ ((overtakes t i ≡ true) × (bound_of t i ≡ bound_of_level t i))
      go false e _ = inl (bound_first e)
      go true e (inl l) = inl (omega (arith, bound_second e))
      go true e (inr l) = inr (e, omega (arith, bound_second e))

  -- no bound grows: the number in the row is at most the bound over all callbacks, which the row had before
  pub bound_under : bound_of t i ≤ bound_of_all t i
  bound_under = go (overtakes t i) refl
    where
      go : (b : Bool) → overtakes t i ≡ b → bound_of t i ≤ bound_of_all t i
      go false e = omega (arith, bound_first e)
      go true e = omega (arith, bound_second e)
