-- The second bound of a timer of edition 1 (document 02, U5): its level, itself and the timers above it, goes before all else.
--   member_timer, outside   who is in the level, and who is below it
--   urgent                  the level goes first
--   kept_level              so the bound over the level's demand, with B on top, is kept
use mathlib.Core.Path.{◌≡◌, refl, sym, ap, ◌∙◌, subst}
use mathlib.Core.Logic.{◌≢◌}
use mathlib.Core.Bool.{Bool, true, false, not, ◌&&◌}
use mathlib.Core.List.{List}
use Prim.Native.Nat.{ℕ, suc, ◌+◌, ◌≤◌, ◌<◌}
use native.Mathlib.Nat.{le_refl}
use native.Mathlib.Decide.{ℕ_discrete}
use native.Mathlib.Omega.{arith}
use lib.Dec.{eqb, ltb}
use lib.ListN.{length}
use borrow.Author.Tests.{eqb-true, eq-eqb, ltb-false}
use Rattle.masks.specs.Mask.{has}
use Rattle.ranges.specs.Sum.{given, hit}
use Rattle.ranges.proofs.SumLaws.{hit_other}
use Rattle.ranges.proofs.EveryLaws.{never_both, flipped, and_holds, or_fails}
use Rattle.numbers.specs.Numbers.{most_ticks, edition_one, timer}
use Rattle.table.specs.declared.Table.{Table}
use Rattle.table.specs.Values.{kind_of}
use Rattle.table.specs.Links.{linked}
use Rattle.link_rules.proofs.Names.{head_unfed}
use Rattle.priority.specs.Priority.{precedes}
use Rattle.priority.proofs.PriorityLaws.{precedes_trans}
use Rattle.turns.specs.Choosing.{polled, is_polled}
use Rattle.answers.specs.Outcome.{callback_of}
use Rattle.executor.specs.State.{fresh, waiting_of}
use Rattle.windows.specs.Bounds.{arrivals_of, cost_of, supply_of, arrivals_in}
use Rattle.windows.proofs.TableLaws.{sound_rising}
use Rattle.levels.specs.Levels.{overtakes, lower_than, level_of, window_of_level, bound_of_level}
use Rattle.levels.proofs.LevelLaws.{below_is, not_below, blocked_by}
use Rattle.busy_window.specs.Flow.{counts}
use Rattle.busy_window.specs.Level.{Urgent}
use Rattle.busy_window.proofs.Level.{Blocked, in_set, set_blocked}
use Rattle.guarantee.specs.History.{Tick, Result, result_of, results, tick_at, activates}
use Rattle.guarantee.specs.Within.{WithinCurves}
use Rattle.guarantee.proofs.Ticks
use Rattle.guarantee.proofs.Ticks.{before, at, effected, events, states, Orderly}
use Rattle.guarantee.proofs.Analysed.{Analysed}
use Rattle.guarantee.proofs.Unrefused
use Rattle.guarantee.proofs.Unrefused.{activated_to, read}
use Rattle.guarantee.proofs.Conclusions

module _ (tb : Table) (analysed : Analysed tb) (h : List Tick) (short : length h ≤ most_ticks)
    (w : WithinCurves tb h (results (fresh tb) h)) (x : ℕ) (below : x < tb.count) (over : overtakes tb x ≡ true) where
  abbrev n : ℕ
  n = tb.count

  -- the level of x
  abbrev k : ℕ → Bool
  k i = not (has (lower_than tb x) i)

  first_timer : (tb.edition ≡ edition_one) × (kind_of tb x ≡ timer)
  unfolding overtakes
  first_timer =
      let a = and_holds (eqb tb.edition edition_one) (eqb (kind_of tb x) timer) over in
      (eqb-true tb.edition edition_one a.0, eqb-true (kind_of tb x) timer a.1)

  inside : (i : ℕ) → i < n → k i ≡ true → precedes tb x i ≡ false
  inside i l e = sym (below_is tb x i l) ∙ flipped _ _ e

  outside : (i : ℕ) → i < n → k i ≡ false → precedes tb x i ≡ true
  outside i l e = sym (below_is tb x i l) ∙ flipped _ _ e

  -- the level is one of timers
  member_timer : (i : ℕ) → i < n → k i ≡ true → kind_of tb i ≡ timer
  unfolding precedes
  member_timer i l e =
      let a = or_fails (ltb (kind_of tb x) (kind_of tb i)) (eqb (kind_of tb x) (kind_of tb i) && ltb x i) (inside i l e) in
      omega (arith, ltb-false (kind_of tb x) (kind_of tb i) a.0, analysed.sound.kind_from i l, first_timer.1)

  member_unpolled : (i : ℕ) → i < n → k i ≡ true → is_polled tb i ≡ false
  unfolding polled
  member_unpolled i l e = rw (first_timer.0, eq-eqb (kind_of tb i) timer (member_timer i l e))

  abbrev free : ℕ → Result
  free t = result_of (at effected (fresh tb) h t)

  orderly : Orderly tb h
  orderly = Unrefused.orderly tb analysed h short w

  -- one that waits keeps everyone below the level from starting
  goes_first : (i j t : ℕ) → i < n → j < n → t < length h → k i ≡ true → k j ≡ false
      → 0 < waiting_of (before effected (fresh tb) h t) i + given (activates (tick_at h t) (free t) i) 1
      → given ((free t).started && eqb (callback_of (free t).outcome) (suc j)) 1 ≡ 0
  goes_first i j t li lj lt ei ej o = go ((free t).started && eqb (callback_of (free t).outcome) (suc j)) refl
    where
      other : i ≢ j
      other e = never_both (k j) (subst (λ (y : ℕ). k y ≡ true) e ei) ej

      go : (b : Bool) → ((free t).started && eqb (callback_of (free t).outcome) (suc j)) ≡ b → given b 1 ≡ 0
      go false e = refl
      go true e =
          let a = and_holds (free t).started (eqb (callback_of (free t).outcome) (suc j)) e in
          let ahead = (Ticks.did tb h orderly t lt).urgent i j li o (member_unpolled i li ei) a.0 (eqb-true _ _ a.1) other in
          absurd (never_both (precedes tb x i) (precedes_trans tb x j i (outside j lj ej) ahead) (inside i li ei))

  started_works : (a b : Bool) → given (a && b) 1 ≤ given b 1
  started_works true b = le_refl _
  started_works false b = omega arith

  one_runs : (r i : ℕ) → 0 < hit r i → r ≡ suc i
  one_runs r i l = go (ℕ_discrete r (suc i))
    where
      go : Dec (r ≡ suc i) → r ≡ suc i
      go (yes e) = e
      go (no e) = absurd (omega (arith, hit_other r i e))

  urgent : Urgent n (length h) (linked tb) k (events h free) (states (before effected (fresh tb) h))
  unfolding events states hit
  urgent = record {
    single = λ i j t _ _ _ a b. omega (arith, one_runs _ i a, one_runs _ j b);
    at_once = λ i t _ _. started_works (free t).started (eqb (callback_of (free t).outcome) (suc i));
    no_other = λ t _. refl;
    unfed = λ i l e. head_unfed tb i (analysed.sound.timer_head i l (member_timer i l e));
    first = goes_first;
  }

  blocked : Blocked n k (read tb h free) (length h) (level_of tb x).blocking
  unfolding read level_of
  blocked = set_blocked n (length h) (linked tb) (events h free) (states (before effected (fresh tb) h)) (Ticks.local tb h orderly) k urgent (activated_to tb h free)
      (Unrefused.flows tb analysed h short w) (length h) (arrivals_of tb) (cost_of tb) (supply_of tb) (Unrefused.within_all tb analysed h short w) (sound_rising tb analysed.sound)
      _ (λ j l e. blocked_by tb (lower_than tb x) j l (flipped _ _ e))

  -- the second bound keeps its promise
  pub kept_level : Conclusions.Kept tb analysed h short w x (bound_of_level tb x)
  unfolding read counts events arrivals_in level_of
  kept_level v j hv lo hi end =
      in_set n k (read tb h free) (length h) (arrivals_of tb) (cost_of tb) (supply_of tb) (length h) (le_refl _) 0 _ (Unrefused.pure_runs tb analysed h short w)
      (Unrefused.within_all tb analysed h short w) (sound_rising tb analysed.sound) blocked (window_of_level tb x) (analysed.level x).window (analysed.level x).supplied
      x v j (bound_of_level tb x) below (ap not (not_below tb x below)) hv lo hi (analysed.level x).covers end
