-- Laws of the demand: whose instances are charged (limit_own, limit_other), and no fewer as offset and length grow (limit_up). More instances bring no less work (demand-le), so that the demand
-- of all, and that of an offset, does not fall as the length grows (whole_up, part_up).
use mathlib.Core.Path.{◌≡◌, refl, sym, subst}
use mathlib.Core.Logic.{◌≢◌}
use Prim.Native.Nat.{ℕ, suc, ◌≤◌, ◌<◌}
use native.Mathlib.Nat.{le_refl, le_of_lt}
use native.Mathlib.Decide.{ℕ_discrete}
use native.Mathlib.Omega.{arith}
use borrow.Author.Tests.{eq-eqb, ne_eqb}
use Rattle.curves.specs.Demand.{demand, limit}
use Rattle.curves.specs.Parts.{Rising}
use Rattle.ranges.proofs.SumLaws.{sum-le, mono_upto}

pub limit_own : (a : ℕ → ℕ → ℕ) (x A D : ℕ) → limit a x A D x ≡ a x (suc A)
unfolding limit
limit_own a x A D = rw (eq-eqb x x refl, limit)

pub limit_other : (a : ℕ → ℕ → ℕ) (x A D j : ℕ) → j ≢ x → limit a x A D j ≡ a j D
unfolding limit
limit_other a x A D j p = rw (ne_eqb j x p, limit)

module _ (n : ℕ) (a e : ℕ → ℕ → ℕ) (up : Rising n a e) where
  -- a longer window holds no fewer arrivals
  pub arrivals_upto : (i d D : ℕ) → i < n → d ≤ D → a i d ≤ a i D
  arrivals_upto i d D l h = mono_upto (a i) D (λ t _. up.a_up i t l) d D h (le_refl D)

  -- more instances cost no less
  pub cost_upto : (i m m' : ℕ) → i < n → m ≤ m' → e i m ≤ e i m'
  cost_upto i m m' l h = mono_upto (e i) m' (λ t _. le_of_lt (up.e_up i t l)) m m' h (le_refl m')

  pub demand-le : (m m' : ℕ → ℕ) → ((i : ℕ) → i < n → m i ≤ m' i) → demand n e m ≤ demand n e m'
  demand-le m m' h = sum-le (λ i. e i (m i)) (λ i. e i (m' i)) n (λ i l. cost_upto i (m i) (m' i) l (h i l))

  -- in a longer window the demand of all does not fall
  pub whole_up : (D : ℕ) → demand n e (λ i. a i D) ≤ demand n e (λ i. a i (suc D))
  whole_up D = demand-le (λ i. a i D) (λ i. a i (suc D)) (λ i l. up.a_up i D l)

  -- as offset and length grow, no fewer instances are charged
  pub limit_up : (x A B D E i : ℕ) → A ≤ B → D ≤ E → i < n → limit a x A D i ≤ limit a x B E i
  limit_up x A B D E i h k l = go (ℕ_discrete i x)
    where
      go : Dec (i ≡ x) → limit a x A D i ≤ limit a x B E i
      go (yes p) = subst (λ (y : ℕ). limit a x A D y ≤ limit a x B E y) (sym p)
          (rw (limit_own a x A D, limit_own a x B E) (arrivals_upto x (suc A) (suc B) (subst (λ (y : ℕ). y < n) p l) (omega arith)))
      go (no p) = rw (limit_other a x A D i p, limit_other a x B E i p) (arrivals_upto i D E l k)

  -- nor does that of an offset fall
  pub part_up : (x A D : ℕ) → demand n e (limit a x A D) ≤ demand n e (limit a x A (suc D))
  part_up x A D = demand-le (limit a x A D) (limit a x A (suc D)) (λ i l. limit_up x A A D (suc D) i (le_refl A) (omega arith) l)
