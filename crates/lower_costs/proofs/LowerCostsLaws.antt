-- Laws of a table u with the numbers of t and lower costs.
--   same_head, same_head_of, same-arrivals, same-supply   its chains, arrivals and supply are those of t
--   lower_window                                          where t has a window, u has one, which is not longer
--   lower_bound                                           and no bound in its row is larger, the second ones of timers included
--   lower_accepted                                        where the analyser accepts t, it accepts u
use mathlib.Core.Path.{◌≡◌, refl, sym, ap, ap₂, subst, ◌∙◌, fun_ext}
use mathlib.Core.Logic.{◌≢◌}
use mathlib.Core.Bool.{Bool, true, false, not, ◌&&◌, ◌||◌}
use mathlib.Core.List.{List}
use Prim.Native.Nat.{ℕ, zero, suc, ◌-◌, ◌≤◌, ◌<◌}
use native.Mathlib.Nat.{le_refl}
use native.Mathlib.Omega.{arith}
use lib.Dec.{eqb, ltb}
use lib.ListN.{get_or}
use borrow.Author.Tests.{le-ltb}
use Rattle.numbers.specs.Numbers.{edition_one, timer, default_horizon, no_window, too_many, most_waiting}
use Rattle.masks.specs.Mask.{has, gather}
use Rattle.ranges.specs.Sum.{sum, given}
use Rattle.ranges.specs.Least.{lowest, largest}
use Rattle.ranges.proofs.SumLaws.{given_up}
use Rattle.ranges.proofs.LeastLaws.{largest-le, largest_upper, lowest_never}
use Rattle.curves.specs.Arrivals.{arrivals}
use Rattle.curves.specs.Supply.{delayed_supply}
use Rattle.curves.proofs.DemandLaws.{arrivals_upto}
use Rattle.table.specs.declared.Refusal.{Refusal}
use Rattle.table.specs.declared.Table.{Table}
use Rattle.table.specs.Values.{refuse, accepted, lowest_refused, callback_at, horizon_of}
use Rattle.table.specs.Links.{linked, named, is_head}
use Rattle.priority.specs.Priority.{precedes}
use Rattle.chains.specs.Chains.{feeder, head_from, head_of}
use Rattle.rules.specs.Parts.{Sound}
use Rattle.windows.specs.declared.Level.{Level}
use Rattle.windows.specs.Window.{window, bound}
use Rattle.windows.specs.Bounds.{arrivals_of, cost_of, supply_of, window_of, bound_of_all, arrivals_in, window_in, bound_in, everyone}
use Rattle.windows.specs.Parts.{head_arrivals}
use Rattle.windows.proofs.WindowLaws.{window_settles}
use Rattle.windows.proofs.LowerLaws
use Rattle.windows.proofs.TableLaws.{sound_rising, level_rising}
use Rattle.levels.specs.Levels.{overtakes, lower_than, blocking_by, level_of, window_of_level, bound_of_level, bound_of}
use Rattle.levels.proofs.LevelLaws.{all_window, all_bound, level_window, bound_first, bound_second}
use Rattle.sheet.specs.Sheet.{too_many_at, sheet_fault}
use Rattle.sheet.proofs.CrowdedLaws.{crowded}
use Rattle.sheet.proofs.Accepted.{some_window, few_arrivals}
use Rattle.lower_costs.specs.LowerCosts.{LowerCosts}

module _ (t u : Table) (low : LowerCosts t u) where
  -- ---- what is the same

  -- who is a head
  pub same_head : (i : ℕ) → is_head u i ≡ is_head t i
  unfolding is_head named linked
  same_head i = ap₂ (λ (next : ℕ → ℕ) (n : ℕ). eqb (sum n (λ p. given (eqb (next p) (suc i)) 1)) 0) (fun_ext low.nexts) low.count

  -- who names a slot, and the head that this leads back to
  same-feeder : (i : ℕ) → feeder u i ≡ feeder t i
  unfolding feeder linked
  same-feeder i = ap₂ (λ (next : ℕ → ℕ) (n : ℕ). lowest (λ p. eqb (next p) (suc i)) n) (fun_ext low.nexts) low.count

  same_from : (f i : ℕ) → head_from u f i ≡ head_from t f i
  unfolding head_from
  same_from zero i = refl
  same_from (suc f) i = ap₂ (λ (x : ℕ) (next : ℕ → ℕ). elim x [ zero ↦ i | suc p ↦ next p ]) (same-feeder i) (fun_ext (same_from f))

  -- the head of each slot's chain
  pub same_head_of : (i : ℕ) → head_of u i ≡ head_of t i
  unfolding head_of
  same_head_of i = same_from u.count i ∙ ap (λ (n : ℕ). head_from t n i) low.count

  -- the arrivals of each callback
  pub same-arrivals : arrivals_of u ≡ arrivals_of t
  unfolding arrivals_of
  same-arrivals = fun_ext (λ i. ap (λ (h : ℕ). head_arrivals (callback_at u h)) (same_head_of i)
      ∙ ap (λ (v : List ℕ). arrivals (get_or v 0 0) (get_or v 1 0) (get_or v 2 0)) (low.arrivals (head_of t i)))

  -- the supply
  pub same-supply : supply_of u ≡ supply_of t
  unfolding supply_of
  same-supply = ap (λ (v : List ℕ). delayed_supply (get_or v 0 0) (get_or v 1 0) (get_or v 3 0)) low.ticks

  -- the horizon
  same_horizon : horizon_of u ≡ horizon_of t
  unfolding horizon_of
  same_horizon = ap (λ (v : List ℕ). elim (eqb (get_or v 2 0) 0) [ true ↦ default_horizon | false ↦ get_or v 2 0 ]) low.ticks

  -- who gets a second bound, and who is below its level
  same-overtakes : (i : ℕ) → overtakes u i ≡ overtakes t i
  unfolding overtakes
  same-overtakes i = ap₂ (λ (x k : ℕ). eqb x edition_one && eqb k timer) low.edition (low.kinds i)

  same_below : (i : ℕ) → lower_than u i ≡ lower_than t i
  unfolding lower_than precedes
  same_below i =
      ap₂ (λ (kind : ℕ → ℕ) (n : ℕ). gather (λ j. ltb (kind i) (kind j) || (eqb (kind i) (kind j) && ltb i j)) n) (fun_ext low.kinds) low.count

  -- ---- levels

  -- no more is taken from a level
  lower_blocking : (below : ℕ) → blocking_by u below ≤ blocking_by t below
  unfolding blocking_by
  lower_blocking below =
      let f : ℕ → ℕ = λ j. given (has below j) (cost_of t j 1) in
      let g : ℕ → ℕ = λ j. given (has below j) (cost_of u j 1) in
      subst (λ (n : ℕ). largest n g - 1 ≤ blocking_by t below) (sym low.count) (omega (
        arith,
        largest_upper g (largest t.count f) t.count (λ j l. omega (arith, given_up (has below j) (low.costs j 1 l), largest-le f t.count j l)),
      ))

  -- level v of t, and level w of u with the same callbacks: the horizons may differ
  module _ (v w : Level) (same : w.below ≡ v.below) (less : w.blocking ≤ v.blocking) (some : window_in t v ≢ 0) where
    -- the same arrivals
    same_in : arrivals_in u w ≡ arrivals_in t v
    unfolding arrivals_in
    same_in = ap₂ {C = ℕ → ℕ → ℕ} (λ (below : ℕ) (a : ℕ → ℕ → ℕ). λ i D. given (not (has below i)) (a i D)) same same-arrivals

    -- so what holds at the arrivals and supply of v holds at those of w
    carried : (P : ℕ → (ℕ → ℕ → ℕ) → (ℕ → ℕ) → Type 0) → P t.count (arrivals_in t v) (supply_of t) → P u.count (arrivals_in u w) (supply_of u)
    carried P p = rw (same_in, same-supply, low.count) p

    -- there is a window, which is not longer
    window_in_lem : window_in t v ≤ w.horizon → (0 < window_in u w) × (window_in u w ≤ window_in t v)
    unfolding window_in
    window_in_lem l = carried (λ n a s. let W : ℕ = window n a (cost_of u) s w.blocking w.horizon in (0 < W) × (W ≤ window_in t v)) (
      LowerLaws.window_stays t.count (arrivals_in t v) (cost_of t) (cost_of u) (supply_of t) v.blocking w.blocking v.horizon w.horizon low.costs less some l,
      LowerLaws.lower_window t.count (arrivals_in t v) (cost_of t) (cost_of u) (supply_of t) v.blocking w.blocking v.horizon w.horizon low.costs less some,
    )

    -- no bound is larger
    bound_in_lem : Sound t → (i : ℕ) → bound_in u w i ≤ bound_in t v i
    unfolding bound_in window_in
    bound_in_lem so i = carried (λ n a s. bound n a (cost_of u) s w.blocking w.horizon i ≤ bound_in t v i)
        (LowerLaws.lower_bound t.count (arrivals_in t v) (cost_of t) (cost_of u) (supply_of t) v.blocking w.blocking v.horizon w.horizon low.costs less (level_rising t so v) i some)

  -- ---- the sheet

  -- all callbacks are a level: its window
  pub lower_window : window_of t ≢ 0 → (0 < window_of u) × (window_of u ≤ window_of t)
  unfolding window_in
  lower_window some =
      let found : window_in t (everyone t) ≢ 0 = omega (arith, all_window t) in
      let w = window_settles t.count (arrivals_in t (everyone t)) (cost_of t) (supply_of t) 0 (horizon_of t) found in
      rw (← all_window t, ← all_window u) (window_in_lem (everyone t) (everyone u) refl (le_refl 0) found (omega (arith, same_horizon, w.1)))

  -- no number in the row is larger: neither bound of a timer is
  pub lower_bound : Sound t → window_of t ≢ 0 → (i : ℕ) → bound_of u i ≤ bound_of t i
  unfolding window_of_level bound_of_level level_of
  lower_bound so some i = go (overtakes t i) refl
    where
      all : bound_of_all u i ≤ bound_of_all t i
      all = rw (← all_bound t i, ← all_bound u i) (bound_in_lem (everyone t) (everyone u) refl (le_refl 0) (omega (arith, all_window t)) so i)

      level : bound_of_level u i ≤ bound_of_level t i
      level =
          bound_in_lem (level_of t i) (level_of u i) (same_below i) (rw (same_below i) (lower_blocking (lower_than t i))) (omega (arith, (level_window t so i some).0)) so i

      go : (b : Bool) → overtakes t i ≡ b → bound_of u i ≤ bound_of t i
      go true e = omega (arith, bound_second t i e, bound_second u i (same-overtakes i ∙ e), all, level)
      go false e = omega (arith, bound_first t i e, bound_first u i (same-overtakes i ∙ e), all)

  -- nothing is refused: there is a window, and in one that is not longer no head has more arrivals
  pub lower_accepted : Sound t → (sheet_fault t).number ≡ 0 → (sheet_fault u).number ≡ 0
  unfolding sheet_fault too_many_at
  lower_accepted so ok = go (window_of u) (lower_window (some_window t ok)).0 (lower_window (some_window t ok)).1
    where
      passes : (w : ℕ) → w ≤ window_of t → (i : ℕ) → i < t.count → (b : Bool) → is_head t i ≡ b → (b && ltb most_waiting (arrivals_of t i w)) ≡ false
      passes w h i l false e = refl
      passes w h i l true e = le-ltb most_waiting (arrivals_of t i w) (omega (
        arith,
        few_arrivals t ok i l e,
        arrivals_upto t.count (arrivals_of t) (cost_of t) (sound_rising t so) i w (window_of t) l h,
      ))

      none : (w : ℕ) → w ≤ window_of t → too_many_at u w ≡ 0
      none w h = lowest_never (crowded u w) u.count (λ i l. rw (same_head i, same-arrivals) (passes w h i (omega (arith, low.count)) (is_head t i) refl))

      go : (w : ℕ) → 0 < w → w ≤ window_of t → (elim w as (λ _. Refusal) [ zero ↦ refuse no_window 0 | suc w ↦ lowest_refused too_many (too_many_at u (suc w)) accepted ]).number ≡ 0
      go zero p h = absurd (omega arith)
      go (suc w) p h = ap (λ (x : ℕ). (lowest_refused too_many x accepted).number) (none (suc w) h)
