-- Laws of the supply s(D): its whole periods lie within D (periods); it is 0 before the first gap has passed (supply_early), and then what supplied_past says (supply_past).
-- Behind a delay it is 0 before the delay has passed (delayed_early), and then s of what is left (delayed_past); without one it is s (delayed-none).
-- It is never more than the length (supplied_le). At reach x the supply is x at least (reach_supplied), and so it stays (reach_enough); at every shorter length it is less (reach_short).
-- So reach, with what lies past the longest length for more ticks than that (reach_above, reach_inside), is the inverse of the supply (supply_inverse).
use mathlib.Core.Path.{◌≡◌, ap}
use mathlib.Core.Logic.{◌⊎◌, inl, inr}
use Prim.Native.Nat.{ℕ, suc, ◌+◌, ◌*◌, ◌-◌, ◌/◌, ◌≤◌, ◌<◌}
use native.Mathlib.Nat.{le_refl, eq-or-lt_of_le, div-mul-le_self, lt-div-mul-add, mul-le-mul_left, mul-le-mul_right, sub-zero}
use native.Mathlib.Omega.{arith}
use borrow.Author.Tests.{eq-eqb, ne_eqb, lt-ltb, le-ltb}
use Rattle.ranges.proofs.SumLaws.{le_or_lt}
use Rattle.curves.specs.Supply.{supply, supplied_past, delayed_supply}
use Rattle.curves.specs.Parts.{Inverse, reach, reach_past, reach_up_to}

-- k whole periods lie between the first gap and D, and supply no more than they last
pub periods : (budget period n : ℕ) → budget ≤ period → let k : ℕ = (n - (period - budget)) / period in (k * period ≤ n - (period - budget)) × (k * budget ≤ k * period)
periods budget period n h = (div-mul-le_self (n - (period - budget)) period, mul-le-mul_left ((n - (period - budget)) / period) h)

pub supply_early : (budget period n : ℕ) → n < period - budget → supply budget period n ≡ 0
unfolding supply
supply_early budget period n h = rw (lt-ltb n (period - budget) h, supply)

pub supply_past : (budget period n : ℕ) → period - budget ≤ n → supply budget period n ≡ supplied_past budget period (period - budget) n
unfolding supply
supply_past budget period n h = rw (le-ltb n (period - budget) h, supply)

-- ---- behind a delay

pub delayed_early : (budget period delay n : ℕ) → n < delay → delayed_supply budget period delay n ≡ 0
unfolding delayed_supply
delayed_early budget period delay n h = rw (lt-ltb n delay h, delayed_supply)

pub delayed_past : (budget period delay n : ℕ) → delay ≤ n → delayed_supply budget period delay n ≡ supply budget period (n - delay)
unfolding delayed_supply
delayed_past budget period delay n h = rw (le-ltb n delay h, delayed_supply)

-- so a table with zeros in bytes 8 and 9 has the supply that it had before there was a delay
pub delayed-none : (budget period n : ℕ) → delayed_supply budget period 0 n ≡ supply budget period n
delayed-none budget period n = simp sub-zero at (delayed_past budget period 0 n (omega arith))

-- ---- the inverse

pub reach-none : (budget period delay x : ℕ) → x ≡ 0 → reach budget period delay x ≡ 0
unfolding reach
reach-none budget period delay x h = rw (eq-eqb x 0 h, reach)

pub reach_above : (most x : ℕ) (r : ℕ → ℕ) → most < x → reach_up_to most r x ≡ suc most
unfolding reach_up_to
reach_above most x r h = rw (lt-ltb most x h, reach_up_to)

pub reach_inside : (most x : ℕ) (r : ℕ → ℕ) → x ≤ most → reach_up_to most r x ≡ r x
unfolding reach_up_to
reach_inside most x r h = rw (le-ltb most x h, reach_up_to)

pub reach-some : (budget period delay x : ℕ) → 0 < x → reach budget period delay x ≡ reach_past budget period delay x
unfolding reach
reach-some budget period delay x h = rw (ne_eqb x 0 (λ e. omega arith), reach)

module _ (budget period delay : ℕ) (some : 0 < budget) (within : budget ≤ period) where
  -- s is no more than the length
  supply-le : (n : ℕ) → supply budget period n ≤ n
  supply-le n = go (le_or_lt (period - budget) n)
    where
      go : (period - budget ≤ n) ⊎ (n < period - budget) → supply budget period n ≤ n
      go (inl l) = omega (arith, supply_past budget period n l, periods budget period n within)
      go (inr l) = omega (arith, supply_early budget period n l)

  pub supplied_le : (D : ℕ) → delayed_supply budget period delay D ≤ D
  supplied_le D = go (le_or_lt delay D)
    where
      go : (delay ≤ D) ⊎ (D < delay) → delayed_supply budget period delay D ≤ D
      go (inl l) = omega (arith, delayed_past budget period delay D l, supply-le (D - delay))
      go (inr l) = omega (arith, delayed_early budget period delay D l)

  module _ (x n : ℕ) (positive : 0 < x) where
    -- the budgets that lie whole before the last of x ticks, and the whole periods of n ticks
    abbrev j : ℕ
    j = (x - 1) / budget

    abbrev k : ℕ
    k = (n - (period - budget)) / period

    before_last : (j * budget ≤ x - 1) × (x - 1 < j * budget + budget)
    before_last = (div-mul-le_self (x - 1) budget, lt-div-mul-add some)

    fitting : (k * period ≤ n - (period - budget)) × (n - (period - budget) < k * period + period)
    fitting = ((periods budget period n within).0, lt-div-mul-add (omega arith))

    -- sooner than x behind two gaps: as many periods as budgets leave less than the rest of x, fewer do not hold the budgets, and more do not fit
    supply_short : n < j * period + 2 * (period - budget) + (x - j * budget) → supply budget period n < x
    supply_short h = go (le_or_lt (period - budget) n)
      where
        past : period - budget ≤ n → (k ≤ j) ⊎ (j < k) → supply budget period n < x
        past l (inl m) = held (eq-or-lt_of_le m)
          where
            held : (k ≡ j) ⊎ (k < j) → supply budget period n < x
            held (inl e) = omega (arith, supply_past budget period n l, before_last, ap (λ (i : ℕ). i * budget) e, ap (λ (i : ℕ). i * period) e)
            held (inr f) = omega (arith, supply_past budget period n l, before_last, fitting, mul-le-mul_right {m = suc k} {n = j} budget f)
        past l (inr m) = absurd (omega (arith, before_last, fitting, mul-le-mul_right {m = suc j} {n = k} period m))

        go : (period - budget ≤ n) ⊎ (n < period - budget) → supply budget period n < x
        go (inl l) = past l (le_or_lt k j)
        go (inr l) = omega (arith, supply_early budget period n l)

    -- from there on: as many periods leave the rest of x, and one more budget holds it
    supply_enough : j * period + 2 * (period - budget) + (x - j * budget) ≤ n → x ≤ supply budget period n
    supply_enough h = go (le_or_lt k j)
      where
        past : supply budget period n ≡ supplied_past budget period (period - budget) n
        past = supply_past budget period n (omega arith)

        go : (k ≤ j) ⊎ (j < k) → x ≤ supply budget period n
        go (inl m) = held (eq-or-lt_of_le m)
          where
            held : (k ≡ j) ⊎ (k < j) → x ≤ supply budget period n
            held (inl e) = omega (arith, past, before_last, ap (λ (i : ℕ). i * budget) e, ap (λ (i : ℕ). i * period) e)
            held (inr f) = absurd (omega (arith, before_last, fitting, mul-le-mul_right {m = suc k} {n = j} period f))
        go (inr m) = omega (arith, past, before_last, mul-le-mul_right {m = suc j} {n = k} budget m)

  pub reach_short : (x D : ℕ) → D < reach budget period delay x → delayed_supply budget period delay D < x
  reach_short x D h = go (le_or_lt x 0) (le_or_lt delay D)
    where
      go : (x ≤ 0) ⊎ (0 < x) → (delay ≤ D) ⊎ (D < delay) → delayed_supply budget period delay D < x
      go (inl l) k = absurd (omega (arith, reach-none budget period delay x (omega arith)))
      go (inr l) (inl k) = omega (arith, delayed_past budget period delay D k, supply_short x (D - delay) l (omega (arith, reach-some budget period delay x l)))
      go (inr l) (inr k) = omega (arith, delayed_early budget period delay D k)

  pub reach_enough : (x D : ℕ) → reach budget period delay x ≤ D → x ≤ delayed_supply budget period delay D
  reach_enough x D h = go (le_or_lt x 0)
    where
      go : (x ≤ 0) ⊎ (0 < x) → x ≤ delayed_supply budget period delay D
      go (inl l) = omega arith
      go (inr l) =
          let e = reach-some budget period delay x l in
          omega (arith, delayed_past budget period delay D (omega (arith, e)), supply_enough x (D - delay) l (omega (arith, e)))

  -- so at reach x itself
  pub reach_supplied : (x : ℕ) → x ≤ delayed_supply budget period delay (reach budget period delay x)
  reach_supplied x = reach_enough x (reach budget period delay x) (le_refl _)

  -- and reach, up to any longest length, is the inverse of the supply
  pub supply_inverse : (most : ℕ) → Inverse most (delayed_supply budget period delay) (reach_up_to most (reach budget period delay))
  supply_inverse most = record { enough = λ x D l. more x D l (le_or_lt x most); short = λ x D l. less x D l (le_or_lt x most) }
    where
      more : (x D : ℕ) → D ≤ most → (x ≤ most) ⊎ (most < x) → reach_up_to most (reach budget period delay) x ≤ D → x ≤ delayed_supply budget period delay D
      more x D l (inl k) h = reach_enough x D (omega (arith, reach_inside most x (reach budget period delay) k))
      more x D l (inr k) h = absurd (omega (arith, reach_above most x (reach budget period delay) k))

      less : (x D : ℕ) → D ≤ most → (x ≤ most) ⊎ (most < x) → D < reach_up_to most (reach budget period delay) x → delayed_supply budget period delay D < x
      less x D l (inl k) h = reach_short x D (omega (arith, reach_inside most x (reach budget period delay) k))
      less x D l (inr k) h = omega (arith, supplied_le D)
