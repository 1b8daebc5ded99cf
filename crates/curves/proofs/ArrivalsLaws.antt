-- Laws of the arrivals a(D): none in no time, at most one more a tick, so never more than D.
-- ceiling_is, ceiling_mono, ceiling-step, ceiling_zero, ceiling_first: x / y rounded up. arrivals-none, arrivals_first, arrivals-some, arrivals_mono, arrivals-step, arrivals-le.
use mathlib.Core.Path.{◌≡◌, refl, sym}
use Prim.Native.Nat.{ℕ, zero, suc, ◌+◌, ◌-◌, ◌/◌, ◌≤◌, ◌<◌, min}
use native.Mathlib.Nat.{div-eq_of_lt-le, le-div_iff_mul-le, div-lt_iff_lt-mul, div-mul-le_self, lt-div-mul-add, zero-add, div-eq_of_lt}
use native.Mathlib.Omega.{arith}
use Rattle.std.specs.Int.{div_ceil}
use Rattle.std.proofs.lemmas.Grind.{div_ceil_times}
use Rattle.curves.specs.Arrivals.{ceiling, arrivals}

-- as the library rounds
pub ceiling_is : (x y : ℕ) → 0 < y → div_ceil x y ≡ ceiling x y
unfolding ceiling
ceiling_is x y p = let b = div_ceil_times x y p in sym (div-eq_of_lt-le y (omega (arith, b.1)) (grind (arith, b.0)))

pub ceiling_mono : (x y k : ℕ) → 0 < k → x ≤ y → ceiling x k ≤ ceiling y k
unfolding ceiling
ceiling_mono x y k p h = (le-div_iff_mul-le p).1 (omega (arith, div-mul-le_self (x + (k - 1)) k))

pub ceiling-step : (x y k : ℕ) → 0 < k → y ≤ suc x → ceiling y k ≤ suc (ceiling x k)
unfolding ceiling
ceiling-step x y k p l = go ((div-lt_iff_lt-mul p).1 (omega (arith, lt-div-mul-add {a = x + (k - 1)} p)))
  where
    go : (y + (k - 1)) / k < (x + (k - 1)) / k + 2 → (y + (k - 1)) / k ≤ suc ((x + (k - 1)) / k)
    go h = omega arith

pub ceiling_zero : (k : ℕ) → 0 < k → ceiling 0 k ≡ 0
unfolding ceiling
ceiling_zero k p = rw zero-add (div-eq_of_lt (omega arith))

pub ceiling_first : (x k : ℕ) → 0 < k → 0 < x → 0 < ceiling x k
unfolding ceiling
ceiling_first x k p h = (le-div_iff_mul-le p).1 (omega arith)

module _ (period jitter distance : ℕ) where
  pub arrivals-none : arrivals period jitter distance 0 ≡ 0
  unfolding arrivals
  arrivals-none = refl

  -- for D over 0, without a case on D
  pub arrivals-some : (n : ℕ) → 0 < n → arrivals period jitter distance n ≡ min (ceiling (n + jitter) period) (ceiling n distance)
  unfolding arrivals
  arrivals-some zero h = absurd (omega arith)
  arrivals-some (suc n) h = refl

  module _ (some-period : 0 < period) (some-distance : 0 < distance) where
    -- one tick may hold an arrival
    pub arrivals_first : 0 < arrivals period jitter distance 1
    unfolding arrivals
    arrivals_first = omega (arith, ceiling_first (1 + jitter) period some-period (omega arith), ceiling_first 1 distance some-distance (omega arith))

    -- a does not fall
    pub arrivals_mono : (n : ℕ) → arrivals period jitter distance n ≤ arrivals period jitter distance (suc n)
    unfolding arrivals
    arrivals_mono zero = omega arith
    arrivals_mono (suc n) = omega (
      arith,
      ceiling_mono (suc n + jitter) (suc (suc n) + jitter) period some-period (omega arith),
      ceiling_mono (suc n) (suc (suc n)) distance some-distance (omega arith),
    )

    -- a rises by at most one a tick
    pub arrivals-step : (n : ℕ) → arrivals period jitter distance (suc n) ≤ suc (arrivals period jitter distance n)
    unfolding arrivals
    arrivals-step zero = omega (arith, ceiling-step 0 1 distance some-distance (omega arith), ceiling_zero distance some-distance)
    arrivals-step (suc n) = omega (
      arith,
      ceiling-step (suc n + jitter) (suc (suc n) + jitter) period some-period (omega arith),
      ceiling-step (suc n) (suc (suc n)) distance some-distance (omega arith),
    )

    -- at most one a tick
    pub arrivals-le : (n : ℕ) → arrivals period jitter distance n ≤ n
    arrivals-le zero = omega (arith, arrivals-none)
    arrivals-le (suc n) = omega (arith, arrivals-le n, arrivals-step n)
