-- Instances that start within the curve of some entries start within that of the entries replaced (document 02, U7). Assumes nothing.
-- starts f t D, spent f c t D: the instances that start in the D ticks from t on, and their costs.
-- runs_within: where in every window up to L the instances that start cost at most E of their number, they cost at most E' of it.
use mathlib.Core.Path.{◌≡◌, sym, ap}
use mathlib.Core.Logic.{◌⊎◌, inl, inr}
use mathlib.Core.Bool.{Bool}
use mathlib.Core.List.{List, [], ◌∷◌}
use Prim.Native.Nat.{ℕ, zero, suc, ◌+◌, ◌*◌, ◌-◌, ◌/◌, ◌%◌, ◌≤◌, ◌<◌}
use native.Mathlib.Nat.{div-add-mod', mod-lt, le_refl}
use native.Mathlib.Omega.{arith}
use lib.ListN.{length}
use Rattle.ranges.specs.Sum.{sum, given}
use Rattle.ranges.proofs.SumLaws.{le_or_lt, given-le, sum_window}
use Rattle.curves.specs.Cost.{entry, cost}
use Rattle.curves.proofs.CostLaws.{cost_listed}
use Rattle.closure.specs.Closure.{closed}
use Rattle.closure.specs.Split.{total, Split, sum_of}
use Rattle.closure.proofs.ClosureLaws.{closed-length, closed-least}

-- the instances that start in the D ticks from t on
abbrev pub starts : (ℕ → Bool) → ℕ → ℕ → ℕ
starts f t D = sum D (λ u. given (f (t + u)) 1)

-- what they cost
abbrev pub spent : (ℕ → Bool) → (ℕ → ℕ) → ℕ → ℕ → ℕ
spent f c t D = sum D (λ u. given (f (t + u)) (c (t + u)))

-- a window is its first a ticks and the others
window_parts : (g : ℕ → ℕ) (t a D : ℕ) → a ≤ D → sum D (λ u. g (t + u)) ≡ sum a (λ u. g (t + u)) + sum (D - a) (λ u. g (t + a + u))
window_parts g t a D h = omega (arith, sum_window g t D, sum_window g t a, sum_window g (t + a) (D - a), ap (λ (n : ℕ). sum n g) same)
  where
    same : t + a + (D - a) ≡ t + D
    same = omega arith

-- since at most one instance starts in a tick, a window in which p or more start begins with one in which p do
cut : (f : ℕ → Bool) (t p D : ℕ) → p ≤ starts f t D → (a : ℕ) × (a ≤ D) × (starts f t a ≡ p)
unfolding sum
cut f t p zero h = (0, le_refl 0, omega arith)
cut f t p (suc D) h = go (le_or_lt p (starts f t D)) (cut f t p D)
  where
    go : (p ≤ starts f t D) ⊎ (starts f t D < p) → (p ≤ starts f t D → (a : ℕ) × (a ≤ D) × (starts f t a ≡ p)) → (a : ℕ) × (a ≤ suc D) × (starts f t a ≡ p)
    go (inl l) r = (let x = r l in (x.0, omega (arith, x.1), x.2))
    go (inr l) r = (suc D, le_refl (suc D), omega (arith, given-le (f (t + D)) 1))

module _
    (es : List ℕ)
    (f : ℕ → Bool)
    (c : ℕ → ℕ)
    (L : ℕ)
    (some : 0 < length es)
    (within : (t D : ℕ) → t + D ≤ L → spent f c t D ≤ cost es (starts f t D)) where
  -- by any way to split the number of instances
  within_split : (ps : List ℕ) → total ps ≤ length es → (t D : ℕ) → t + D ≤ L → starts f t D ≡ total ps → spent f c t D ≤ sum_of es ps
  within_split [] m t D h e = omega (arith, within t D h, ap (cost es) e, cost_listed es some 0 (omega arith))
  within_split (p ∷ ps) m t D h e = go (cut f t p D (omega arith)) (λ v E. within_split ps (omega arith) v E)
    where
      go : (a : ℕ) × (a ≤ D) × (starts f t a ≡ p) → ((v E : ℕ) → v + E ≤ L → starts f v E ≡ total ps → spent f c v E ≤ sum_of es ps) → spent f c t D ≤ entry es p + sum_of es ps
      go x r = omega (
        arith,
        window_parts (λ u. given (f u) (c u)) t x.0 D x.1,
        within t x.0 (omega (arith, x.1)),
        ap (cost es) x.2,
        cost_listed es some p (omega arith),
        r (t + x.0) (D - x.0) (omega (arith, x.1)) (omega (arith, x.2, e, window_parts (λ u. given (f u) 1) t x.0 D x.1)),
      )

  -- up to m of them
  within-entry : (t D : ℕ) → t + D ≤ L → starts f t D ≤ length es → spent f c t D ≤ entry (closed es) (starts f t D)
  within-entry t D h l = go (closed-least es (starts f t D) l).met
    where
      go : (ps : List ℕ) × Split (starts f t D) ps × (entry (closed es) (starts f t D) ≡ sum_of es ps) → spent f c t D ≤ entry (closed es) (starts f t D)
      go x = omega (arith, x.2, within_split x.0 (omega (arith, x.1.1)) t D h (sym x.1.1))

  -- q runs of m, and r more
  within_rounds : (q r : ℕ) → r < length es → (t D : ℕ) → t + D ≤ L → starts f t D ≡ q * length es + r
      → spent f c t D ≤ q * entry (closed es) (length es) + entry (closed es) r
  within_rounds zero r l t D h e = omega (arith, within-entry t D h (omega arith), ap (entry (closed es)) same)
    where
      same : starts f t D ≡ r
      same = omega (arith, e)
  within_rounds (suc q) r l t D h e = go (cut f t (length es) D (omega arith)) (λ v E. within_rounds q r l v E)
    where
      go : (a : ℕ) × (a ≤ D) × (starts f t a ≡ length es)
          → ((v E : ℕ) → v + E ≤ L → starts f v E ≡ q * length es + r → spent f c v E ≤ q * entry (closed es) (length es) + entry (closed es) r)
          → spent f c t D ≤ suc q * entry (closed es) (length es) + entry (closed es) r
      go x k = omega (
        arith,
        window_parts (λ u. given (f u) (c u)) t x.0 D x.1,
        within-entry t x.0 (omega (arith, x.1)) (omega (arith, x.2)),
        ap (entry (closed es)) x.2,
        k (t + x.0) (D - x.0) (omega (arith, x.1)) (omega (arith, x.2, e, window_parts (λ u. given (f u) 1) t x.0 D x.1)),
      )

  -- any number of them
  pub runs_within : (t D : ℕ) → t + D ≤ L → spent f c t D ≤ cost (closed es) (starts f t D)
  unfolding cost
  runs_within t D h =
      let n : ℕ = starts f t D in
      rw (closed-length es) (within_rounds (n / length es) (n % length es) (mod-lt n some) t D h (sym (div-add-mod' n (length es))))
