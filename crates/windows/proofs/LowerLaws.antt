-- The same arrivals and supply at costs that are nowhere above, with no more for others first: whatever covers the old demand covers the new one.
-- lower_window: the window is not longer. window_stays: it is there, where the new horizon is not below the old window.
-- lower_finish, lower_bound: no offset finishes later, and the bound is not larger. The new horizon may be any: a search that finds nothing gives 0.
use mathlib.Core.Path.{◌≡◌}
use mathlib.Core.Logic.{◌⊎◌, inl, inr, ◌≢◌}
use mathlib.Core.Bool.{Bool, true}
use Prim.Native.Nat.{ℕ, ◌+◌, ◌-◌, ◌≤◌, ◌<◌}
use native.Mathlib.Omega.{arith}
use lib.Dec.{leb}
use borrow.Author.Tests.{leb-true, le-leb}
use Rattle.ranges.specs.Least.{least}
use Rattle.ranges.proofs.EveryLaws.{never_both}
use Rattle.ranges.proofs.SumLaws.{le_or_lt, sum-le}
use Rattle.ranges.proofs.LeastLaws.{least_found, least_by, largest-le, largest_upper}
use Rattle.curves.specs.Demand.{demand, limit}
use Rattle.curves.specs.Parts.{Rising}
use Rattle.windows.specs.Window.{covered, covered_for, window, finish, bound}
use Rattle.windows.proofs.WindowLaws.{finish_within}

-- a test that passes wherever another does is met no later
sooner : (f g : ℕ → Bool) (k m d : ℕ) → ((x : ℕ) → g x ≡ true → f x ≡ true) → least g k d ≢ 0 → least f m d ≤ least g k d
sooner f g k m d easier some = go (le_or_lt (least f m d) (least g k d))
  where
    go : (least f m d ≤ least g k d) ⊎ (least g k d < least f m d) → least f m d ≤ least g k d
    go (inl l) = l
    go (inr l) =
        let r = least_found g k d some in
        absurd (never_both (f (least g k d)) (easier _ r.passes) ((least_found f m d (λ z. omega arith)).none_before _ r.from l))

module _ (n : ℕ) (a e e' : ℕ → ℕ → ℕ) (s : ℕ → ℕ) (b b' H H' : ℕ) (cheaper : (i k : ℕ) → i < n → e' i k ≤ e i k) (less : b' ≤ b) where
  -- what covers some instances covers them at the lower costs
  covers : (m : ℕ → ℕ) (D : ℕ) → leb (b + demand n e m) (s D) ≡ true → leb (b' + demand n e' m) (s D) ≡ true
  covers m D h =
      le-leb (b' + demand n e' m) (s D) (omega (arith, leb-true (b + demand n e m) (s D) h, sum-le (λ i. e' i (m i)) (λ i. e i (m i)) n (λ i l. cheaper i (m i) l)))

  module _ (some : window n a e s b H ≢ 0) where
    -- the window is not longer
    pub lower_window : window n a e' s b' H' ≤ window n a e s b H
    unfolding window covered
    lower_window = sooner (covered n a e' s b') (covered n a e s b) H H' 1 (λ D. covers (λ i. a i D) D) some

    -- it is there, where the old one is within the new horizon
    pub window_stays : window n a e s b H ≤ H' → 0 < window n a e' s b' H'
    unfolding window covered
    window_stays l =
        let W : ℕ = window n a e s b H in
        let r = least_found (covered n a e s b) H 1 some in
        (least_by (covered n a e' s b') H' 1 W r.from (omega arith) (covers (λ i. a i W) W r.passes)).0.from

  module _ (up : Rising n a e) (x : ℕ) where
    -- no offset below the old window finishes later
    pub lower_finish : (A : ℕ) → A < window n a e s b H → finish n a e' s b' H' x A ≤ finish n a e s b H x A
    unfolding finish covered_for
    lower_finish A inside =
        sooner (covered_for n a e' s b' x A) (covered_for n a e s b x A) H H' 1 (λ D. covers (limit a x A D) D) (λ z. omega (arith, (finish_within n a e s b H up x A inside).0))

    -- the bound is not larger: an offset below the new window is below the old one
    pub lower_bound : window n a e s b H ≢ 0 → bound n a e' s b' H' x ≤ bound n a e s b H x
    unfolding bound
    lower_bound some =
        largest_upper (λ A. finish n a e' s b' H' x A - A) (bound n a e s b H x) (window n a e' s b' H') (λ A l.
        let k : A < window n a e s b H = omega (arith, lower_window some) in
        omega (arith, lower_finish A k, largest-le (λ B. finish n a e s b H x B - B) (window n a e s b H) A k))
