-- The law of the jump, over any demand d that does not fall and any supply s with its inverse r, of lengths up to `most`.
-- jump: from D on no length before r (d D) is covered; so none that is covered lies before it (jump_within).
-- As a search of the lengths 1 to `most` goes: jump_hit, where it ends, and jump_miss, where it goes on.
use mathlib.Core.Path.{◌≡◌}
use mathlib.Core.Logic.{◌⊎◌, inl, inr}
use Prim.Native.Nat.{ℕ, suc, ◌≤◌, ◌<◌}
use native.Mathlib.Nat.{le_refl}
use native.Mathlib.Omega.{arith}
use lib.Dec.{leb}
use borrow.Author.Tests.{le-leb, lt-leb}
use Rattle.ranges.proofs.SumLaws.{le_or_lt, mono_upto}
use Rattle.ranges.proofs.LeastLaws.{rest, rest_hit, rest_skip}
use Rattle.curves.specs.Parts.{Inverse}

module _ (most : ℕ) (d s r : ℕ → ℕ) (grows : (D : ℕ) → d D ≤ d (suc D)) (inverse : Inverse most s r) where
  -- from D on, no length before r (d D) is covered: its demand is no smaller than that at D, which is not supplied yet
  pub jump : (D E : ℕ) → D ≤ E → E ≤ most → E < r (d D) → s E < d E
  jump D E l h k = omega (arith, inverse.short (d D) E h k, mono_upto d E (λ t _. grows t) D E l (le_refl E))

  -- so the jump is not past a length that is covered
  pub jump_within : (D E : ℕ) → D ≤ E → E ≤ most → d E ≤ s E → r (d D) ≤ E
  jump_within D E l h c = go (le_or_lt (r (d D)) E)
    where
      go : (r (d D) ≤ E) ⊎ (E < r (d D)) → r (d D) ≤ E
      go (inl k) = k
      go (inr k) = absurd (omega (arith, jump D E l h k))

  -- what is left of a search of 1 to most at D: D, where the jump does not go past it
  pub jump_hit : (D : ℕ) → D ≤ most → r (d D) ≤ D → rest (λ E. leb (d E) (s E)) most D ≡ D
  jump_hit D l h = rest_hit (λ E. leb (d E) (s E)) most D l (le-leb _ _ (inverse.enough (d D) D l h))

  -- else what is left at the jump's end
  pub jump_miss : (D : ℕ) → D ≤ r (d D) → rest (λ E. leb (d E) (s E)) most D ≡ rest (λ E. leb (d E) (s E)) most (r (d D))
  jump_miss D h = rest_skip (λ E. leb (d E) (s E)) most D (r (d D)) h (λ E l k i. lt-leb _ _ (jump D E l i k))
