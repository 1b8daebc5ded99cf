-- Laws of window, finish and bound, over curves of which a does not fall and e rises.
-- window: window_settles, window_least, window_none, window_by. finish: finish_within, finish_covers, finish_least, finish_up, finish_same.
-- bound: bound_covers, bound_le, bound_some. The window is 0 where there is none: each law of finish and bound assumes an offset below it.
use mathlib.Core.Path.{◌≡◌, sym, ap, subst}
use mathlib.Core.Logic.{◌⊎◌, inl, inr, ◌≢◌}
use mathlib.Core.Bool.{true, false}
use Prim.Native.Nat.{ℕ, suc, ◌+◌, ◌-◌, ◌≤◌, ◌<◌}
use native.Mathlib.Nat.{le_refl}
use native.Mathlib.Decide.{ℕ_discrete}
use native.Mathlib.Omega.{arith}
use lib.Dec.{eqb, leb}
use borrow.Author.Tests.{leb-true, leb-false, le-leb}
use Rattle.curves.specs.Demand.{demand, limit}
use Rattle.curves.specs.Parts.{Rising}
use Rattle.ranges.specs.Least.{least}
use Rattle.ranges.proofs.SumLaws.{le_or_lt}
use Rattle.ranges.proofs.LeastLaws.{First, least_found, least_by, largest-le, largest_upper}
use Rattle.curves.proofs.DemandLaws.{limit_own, limit_other, limit_up, arrivals_upto, demand-le}
use Rattle.windows.specs.Window.{covered, covered_for, window, finish, bound}

-- at an offset below the length, no more than the window's own demand charges
limit_under : (n : ℕ) (a e : ℕ → ℕ → ℕ) → Rising n a e → (x A D i : ℕ) → A < D → i < n → limit a x A D i ≤ a i D
limit_under n a e up x A D i h l = go (ℕ_discrete i x)
  where
    go : Dec (i ≡ x) → limit a x A D i ≤ a i D
    go (yes p) = subst (λ (y : ℕ). limit a x A D y ≤ a y D) (sym p)
        (rw (limit_own a x A D) (arrivals_upto n a e up x (suc A) D (subst (λ (y : ℕ). y < n) p l) h))
    go (no p) = rw (limit_other a x A D i p) (le_refl _)

module _ (n : ℕ) (a e : ℕ → ℕ → ℕ) (s : ℕ → ℕ) (b H : ℕ) where
  -- the demand of a whole window of D ticks, and that of offset A of x, on top of what others take
  abbrev whole : ℕ → ℕ
  whole D = b + demand n e (λ i. a i D)

  abbrev part : ℕ → ℕ → ℕ → ℕ
  part x A D = b + demand n e (limit a x A D)

  -- a window that is found lies in 1 to H, and its supply covers its demand
  pub window_settles : window n a e s b H ≢ 0 → (0 < window n a e s b H) × (window n a e s b H ≤ H) × (whole (window n a e s b H) ≤ s (window n a e s b H))
  unfolding window covered
  window_settles found = let r = least_found (covered n a e s b) H 1 found in (r.from, omega (arith, r.below), leb-true _ _ r.passes)

  -- nothing smaller is covered
  pub window_least : (D : ℕ) → 0 < D → D < window n a e s b H → s D < whole D
  unfolding window covered
  window_least D p l =
      let r = least_found (covered n a e s b) H 1 (λ z. omega arith) in
      leb-false (whole D) (s D) (r.none_before D p l)

  -- where a length up to H is covered there is a window, that length at the latest
  pub window_by : (D : ℕ) → 0 < D → D ≤ H → whole D ≤ s D → (0 < window n a e s b H) × (window n a e s b H ≤ D)
  unfolding window covered
  window_by D p l h = let r = least_by (covered n a e s b) H 1 D p (omega arith) (le-leb _ _ h) in (r.0.from, r.1)

  -- where there is none, no length in 1 to H is covered
  pub window_none : window n a e s b H ≡ 0 → (D : ℕ) → 0 < D → D ≤ H → s D < whole D
  window_none z D p l = go (le_or_lt (whole D) (s D))
    where
      go : (whole D ≤ s D) ⊎ (s D < whole D) → s D < whole D
      go (inl h) = absurd (omega (arith, (window_by D p l h).0))
      go (inr h) = h

  -- F reads an offset by the instances of x that it charges, and by nothing else
  pub finish_same : (x A B : ℕ) → a x (suc A) ≡ a x (suc B) → finish n a e s b H x A ≡ finish n a e s b H x B
  unfolding finish covered_for limit
  finish_same x A B h =
      ap (λ (m : ℕ). least (λ D. leb (b + demand n e (λ j. elim (eqb j x) [ true ↦ m | false ↦ a j D ])) (s D)) H 1) h

  module _ (up : Rising n a e) (x : ℕ) where
    -- a length past the offset that covers the whole demand covers the offset's
    part_le : (A D : ℕ) → A < D → part x A D ≤ whole D
    part_le A D h = omega (arith, demand-le n a e up (limit a x A D) (λ i. a i D) (λ i l. limit_under n a e up x A D i h l))

    module _ (A : ℕ) (inside : A < window n a e s b H) where
      searched : First (covered_for n a e s b x A) H 1 (finish n a e s b H x A) × (finish n a e s b H x A ≤ window n a e s b H)
      unfolding finish covered_for
      searched =
          let w = window_settles (λ z. omega arith) in
          let h : part x A (window n a e s b H) ≤ s (window n a e s b H) = omega (arith, w.2, part_le A (window n a e s b H) inside) in
          least_by (covered_for n a e s b x A) H 1 (window n a e s b H) w.0 (omega (arith, w.1)) (le-leb _ _ h)

      -- F(A) is positive, and never above W
      pub finish_within : (0 < finish n a e s b H x A) × (finish n a e s b H x A ≤ window n a e s b H)
      finish_within = (searched.0.from, searched.1)

      -- F(A) is covered for x
      pub finish_covers : part x A (finish n a e s b H x A) ≤ s (finish n a e s b H x A)
      unfolding covered_for
      finish_covers = leb-true _ _ searched.0.passes

      -- and nothing smaller is
      pub finish_least : (D : ℕ) → 0 < D → D < finish n a e s b H x A → s D < part x A D
      unfolding covered_for
      finish_least D p l = leb-false (part x A D) (s D) (searched.0.none_before D p l)

      -- the bound covers each offset: D = F(A)
      pub bound_covers : (D : ℕ) × (part x A D ≤ s D) × (D ≤ A + bound n a e s b H x)
      unfolding bound
      bound_covers =
          (finish n a e s b H x A, finish_covers, omega (arith, largest-le (λ B. finish n a e s b H x B - B) (window n a e s b H) A inside))

    -- F does not fall as the offset grows
    pub finish_up : (A B : ℕ) → A ≤ B → B < window n a e s b H → finish n a e s b H x A ≤ finish n a e s b H x B
    finish_up A B h l = go (le_or_lt (finish n a e s b H x A) (finish n a e s b H x B))
      where
        -- what covers the later offset covers the earlier
        go : (finish n a e s b H x A ≤ finish n a e s b H x B) ⊎ (finish n a e s b H x B < finish n a e s b H x A) → finish n a e s b H x A ≤ finish n a e s b H x B
        go (inl k) = k
        go (inr k) = absurd (omega (
          arith,
          finish_least A (omega arith) (finish n a e s b H x B) (finish_within B l).0 k,
          finish_covers B l,
          demand-le n a e up (limit a x A (finish n a e s b H x B)) (limit a x B (finish n a e s b H x B)) (λ i m. limit_up n a e up x A B (finish n a e s b H x B) (finish n a e s b H x B) i h (le_refl _) m),
        ))

    -- a bound is at most the window
    pub bound_le : bound n a e s b H x ≤ window n a e s b H
    unfolding bound
    bound_le = largest_upper (λ A. finish n a e s b H x A - A) (window n a e s b H) (window n a e s b H) (λ A l. omega (arith, (finish_within A l).1))

    -- and at least 1, from offset 0
    pub bound_some : 0 < window n a e s b H → 1 ≤ bound n a e s b H x
    unfolding bound
    bound_some l = omega (arith, largest-le (λ A. finish n a e s b H x A - A) (window n a e s b H) 0 l, (finish_within 0 l).0)
