-- A history within the curves (document 01, 'Curves', its last paragraph): five conditions on a list h of N ticks with its results r.
use Rattle.std.specs.Prelude.{ℕ, ◌+◌, ◌≤◌, ◌<◌, List, T, length}
use Rattle.masks.specs.Mask.{has}
use Rattle.ranges.specs.Sum.{given}
use Rattle.table.specs.declared.Table.{Table}
use Rattle.table.specs.Links.{is_head}
use Rattle.numbers.specs.Numbers.{longest}
use Rattle.guarantee.specs.History.{Tick, Result, tick_at, over_window, activated_at, starts_at}
use Rattle.windows.specs.Bounds.{arrivals_of, cost_of, supply_of}

pub record WithinCurves (tb : Table) (h : List Tick) (r : List Result) : Type 0 where
  -- arrivals: a(D) bounds the activations of each head in every window of D ticks
  pub arrivals : (i t D : ℕ) → i < tb.count → T (is_head tb i) → t + D ≤ length h
      → over_window (λ u. given (activated_at tb h r i u) 1) t D ≤ arrivals_of tb i D
  -- supply: every window of D ticks has at least as many supplied ones as the table's supply at D says, which comes behind its delay (document 02, U2)
  pub supply : (t D : ℕ) → t + D ≤ length h → supply_of tb D ≤ over_window (λ u. given (tick_at h u).supplied 1) t D
  -- cost: E(n) bounds what n consecutive instances of a callback cost that start; here, those that start in a window of ticks
  pub costs : (i t D : ℕ) → i < tb.count → t + D ≤ length h
      → over_window (λ u. given (starts_at r i u) (tick_at h u).cost) t D ≤ cost_of tb i (over_window (λ u. given (starts_at r i u) 1) t D)
  -- the masks have heads alone
  pub heads : (i t : ℕ) → t < length h → T (has (tick_at h t).mask i) → (i < tb.count) × T (is_head tb i)
  -- the costs offered are in their range, used or not
  pub offers : (t : ℕ) → t < length h → (1 ≤ (tick_at h t).cost) × ((tick_at h t).cost ≤ longest)
