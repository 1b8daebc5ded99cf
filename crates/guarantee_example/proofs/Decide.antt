-- A test that decides whether a history is within the curves, window by window, and the law that what passes it is (decided).
use mathlib.Core.Path.{◌≡◌, refl}
use mathlib.Core.Logic.{◌⊎◌, inl, inr}
use mathlib.Core.Bool.{Bool, true, false, not, ◌&&◌, ◌||◌}
use mathlib.Core.List.{List}
use Prim.Native.Nat.{ℕ, suc, ◌+◌, ◌-◌, ◌≤◌, ◌<◌}
use native.Mathlib.Omega.{arith}
use lib.Dec.{T, ltb, leb}
use lib.ListN.{length}
use borrow.Author.Tests.{ltb-true, leb-true}
use Rattle.masks.specs.Mask.{has}
use Rattle.masks.proofs.Slots.{has_above}
use Rattle.ranges.specs.Sum.{given}
use Rattle.ranges.specs.Every.{every, within}
use Rattle.ranges.proofs.SumLaws.{le_or_lt}
use Rattle.ranges.proofs.EveryLaws.{holds, T_holds, and_holds, every_at, never_both}
use Rattle.table.specs.declared.Table.{Table}
use Rattle.table.specs.Links.{is_head}
use Rattle.numbers.specs.Numbers.{longest}
use Rattle.guarantee.specs.History.{Tick, Result, tick_at, over_window, activated_at, starts_at}
use Rattle.guarantee.specs.Within.{WithinCurves}
use Rattle.windows.specs.Bounds.{arrivals_of, cost_of, supply_of}

-- every window of a list of N ticks
unfoldable pub every_window : ℕ → (ℕ → ℕ → Bool) → Bool
every_window N p = every (suc N) (λ t. every (suc (N - t)) (p t))

window_at : (N : ℕ) (p : ℕ → ℕ → Bool) → every_window N p ≡ true → (t D : ℕ) → t + D ≤ N → p t D ≡ true
unfolding every_window
window_at N p e t D l = every_at (p t) (suc (N - t)) (every_at (λ t. every (suc (N - t)) (p t)) (suc N) e t (omega arith)) D (omega arith)

module _ (tb : Table) (h : List Tick) (r : List Result) where
  unfoldable pub arrivals_hold : ℕ → ℕ → ℕ → Bool
  arrivals_hold i t D = leb (over_window (λ u. given (activated_at tb h r i u) 1) t D) (arrivals_of tb i D)

  unfoldable pub supply_holds : ℕ → ℕ → Bool
  supply_holds t D = leb (supply_of tb D) (over_window (λ u. given (tick_at h u).supplied 1) t D)

  unfoldable pub costs_hold : ℕ → ℕ → ℕ → Bool
  costs_hold i t D =
      leb (over_window (λ u. given (starts_at r i u) (tick_at h u).cost) t D) (cost_of tb i (over_window (λ u. given (starts_at r i u) 1) t D))

  unfoldable pub heads_hold : ℕ → Bool
  heads_hold t = ltb (tick_at h t).mask 65536 && every 16 (λ i. not (has (tick_at h t).mask i) || (ltb i tb.count && is_head tb i))

  unfoldable pub offer_holds : ℕ → Bool
  offer_holds t = within 1 longest (tick_at h t).cost

  -- the five conditions
  unfoldable pub within_test : Bool
  within_test =
      every tb.count (λ i. not (is_head tb i) || every_window (length h) (arrivals_hold i))
      && (every_window (length h) supply_holds
      && (every tb.count (λ i. every_window (length h) (costs_hold i)) && (every (length h) heads_hold && every (length h) offer_holds)))

  not_or : (a b : Bool) → (not a || b) ≡ true → a ≡ true → b ≡ true
  not_or true b e x = e
  not_or false b e x = absurd (never_both false x refl)

  -- a bit of the mask is below the sixteenth, and one of a head
  head_at : (i t : ℕ) → heads_hold t ≡ true → T (has (tick_at h t).mask i) → (i < tb.count) × T (is_head tb i)
  unfolding heads_hold
  head_at i t e x = go (le_or_lt 16 i)
    where
      m : ℕ
      m = (tick_at h t).mask

      a : (ltb m 65536 ≡ true) × (every 16 (λ i. not (has m i) || (ltb i tb.count && is_head tb i)) ≡ true)
      a = and_holds _ _ e

      go : (16 ≤ i) ⊎ (i < 16) → (i < tb.count) × T (is_head tb i)
      go (inl l) = absurd (never_both (has m i) (holds _ x) (has_above 16 m i (ltb-true m 65536 a.0) l))
      go (inr l) =
          let b = and_holds (ltb i tb.count) (is_head tb i) (not_or (has m i) _ (every_at (λ i. not (has m i) || (ltb i tb.count && is_head tb i)) 16 a.1 i l) (holds _ x)) in
          (ltb-true i tb.count b.0, T_holds (is_head tb i) b.1)

  pub decided : within_test ≡ true → WithinCurves tb h r
  unfolding within_test arrivals_hold supply_holds costs_hold offer_holds
  decided e =
      let a = and_holds (every tb.count (λ i. not (is_head tb i) || every_window (length h) (arrivals_hold i))) _ e in
      let b = and_holds (every_window (length h) supply_holds) _ a.1 in
      let c = and_holds (every tb.count (λ i. every_window (length h) (costs_hold i))) _ b.1 in
      let d = and_holds (every (length h) heads_hold) _ c.1 in
      record {
        arrivals = λ i t D l x k.
            leb-true _ _ (window_at (length h) (arrivals_hold i) (not_or (is_head tb i) _ (every_at _ tb.count a.0 i l) (holds _ x)) t D k);
        supply = λ t D k. leb-true _ _ (window_at (length h) supply_holds b.0 t D k);
        costs = λ i t D l k. leb-true _ _ (window_at (length h) (costs_hold i) (every_at _ tb.count c.0 i l) t D k);
        heads = λ i t l x. head_at i t (every_at heads_hold (length h) d.0 t l) x;
        offers = λ t l. (
            let o = and_holds (leb 1 (tick_at h t).cost) (leb (tick_at h t).cost longest) (every_at offer_holds (length h) d.1 t l) in
            (leb-true _ _ o.0, leb-true _ _ o.1)
            );
      }
