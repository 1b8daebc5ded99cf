-- Window, finish and bound over the curves of n callbacks: arrivals a, costs e, supply s, horizon H (document 01, 'The sheet').
-- b units go to others first: 0 in document 01, the B of a timer in document 02, U5.
use Rattle.std.specs.Prelude.{Bool, ℕ, ◌+◌, ◌-◌, leb}
use Rattle.ranges.specs.Least.{least, largest}
use Rattle.curves.specs.Demand.{demand, limit}

module _ (n : ℕ) (a e : ℕ → ℕ → ℕ) (s : ℕ → ℕ) (b : ℕ) where
  -- the first inequality: what others take, and all callbacks need in a length, is supplied in it
  unfoldable pub covered : ℕ → Bool
  covered D = leb (b + demand n e (λ i. a i D)) (s D)

  -- the second: the same, but x needs what its activations up to offset A cost
  unfoldable pub covered_for : ℕ → ℕ → ℕ → Bool
  covered_for x A D = leb (b + demand n e (limit a x A D)) (s D)

  module _ (H : ℕ) where
    -- W: the least length from 1 to the horizon that meets the first; 0 where there is none
    unfoldable pub window : ℕ
    unfolding covered
    window = least covered H 1

    -- F(A): the least length from 1 on that meets the second; it is never above W, so none past the horizon is looked at
    unfoldable pub finish : ℕ → ℕ → ℕ
    unfolding covered_for
    finish x A = least (covered_for x A) H 1

    -- the bound of x: the largest F(A) - A of the offsets below W; a difference below 0 counts as 0, and F(0) is at least 1
    unfoldable pub bound : ℕ → ℕ
    unfolding largest
    bound x = largest window (λ A. finish x A - A)
