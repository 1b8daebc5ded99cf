-- Where no callback is on a loop, every walk along `next` ends, and a rank rises along it.
-- walk_zero, walk-add: a walk that has ended, and one made in two parts. walk-le: a walk stays among the n indices.
-- pigeon: of n + 1 numbers below n two are equal. walk_ends: without loops a walk ends within n steps.
-- rank: a number for each slot, at most n (rank_le), that rises from a slot to the one it names (ranked).
use mathlib.Core.Path.{◌≡◌, refl, subst, sym, ap, ◌∙◌}
use mathlib.Core.Logic.{◌⊎◌, inl, inr, ◌≢◌}
use Prim.Native.Nat.{ℕ, zero, suc, ◌+◌, ◌-◌, ◌≤◌, ◌<◌, pred}
use native.Mathlib.Nat.{le_refl, eq-or-lt_of_le, add-zero, add-suc}
use native.Mathlib.Decide.{ℕ_discrete}
use native.Mathlib.Omega.{arith}
use Rattle.table.specs.Walk.{walk}

-- some number below n that f takes to v, and that there is none
abbrev Hit : ℕ → (ℕ → ℕ) → ℕ → Type 0
Hit n f v = (i : ℕ) × (i < n) × (f i ≡ v)

abbrev Miss : ℕ → (ℕ → ℕ) → ℕ → Type 0
Miss n f v = (i : ℕ) → i < n → f i ≢ v

find : (n : ℕ) (f : ℕ → ℕ) (v : ℕ) → Hit n f v ⊎ Miss n f v
find zero f v = inr (λ i l. absurd (omega arith))
find (suc n) f v = go (find n f v) (ℕ_discrete (f n) v)
  where
    go : Hit n f v ⊎ Miss n f v → Dec (f n ≡ v) → Hit (suc n) f v ⊎ Miss (suc n) f v
    go (inl x) d = inl (x.0, omega (arith, x.1), x.2)
    go (inr h) (yes p) = inl (n, le_refl _, p)
    go (inr h) (no p) = inr (λ i l. pick i (eq-or-lt_of_le l))
      where
        pick : (i : ℕ) → (suc i ≡ suc n) ⊎ (suc i < suc n) → f i ≢ v
        pick i (inl q) = (let same : n ≡ i = omega arith in subst (λ (x : ℕ). f x ≢ v) same p)
        pick i (inr q) = h i (omega arith)

-- v in the place of n, every other number as it is
abbrev swap_by : (n v x : ℕ) → Dec (x ≡ n) → ℕ
swap_by n v x (yes p) = v
swap_by n v x (no p) = x

swap : ℕ → ℕ → ℕ → ℕ
swap n v x = swap_by n v x (ℕ_discrete x n)

abbrev Swapped : ℕ → ℕ → ℕ → Type 0
Swapped n v x = ((x ≡ n) × (swap n v x ≡ v)) ⊎ ((x ≢ n) × (swap n v x ≡ x))

swap_cases : (n v x : ℕ) → Swapped n v x
unfolding swap
swap_cases n v x = go (ℕ_discrete x n)
  where
    go : (d : Dec (x ≡ n)) → ((x ≡ n) × (swap_by n v x d ≡ v)) ⊎ ((x ≢ n) × (swap_by n v x d ≡ x))
    go (yes p) = inl (p, refl)
    go (no p) = inr (p, refl)

-- two of f 0, .., f n are equal
abbrev pub Twice : ℕ → (ℕ → ℕ) → Type 0
Twice n f = (i : ℕ) × (j : ℕ) × (i < j) × (j ≤ n) × (f i ≡ f j)

-- n + 1 numbers below n: two are equal
pub pigeon : (n : ℕ) (f : ℕ → ℕ) → ((k : ℕ) → k ≤ n → f k < n) → Twice n f
pigeon zero f h = absurd (omega (arith, h 0 (omega arith)))
pigeon (suc n) f h = go (find (suc n) f (f (suc n))) (λ g b. pigeon n g b)
  where
    v : ℕ
    v = f (suc n)

    go : Hit (suc n) f (f (suc n)) ⊎ Miss (suc n) f (f (suc n)) → ((g : ℕ → ℕ) → ((k : ℕ) → k ≤ n → g k < n) → Twice n g) → Twice (suc n) f
    go (inl x) r = (x.0, suc n, x.1, le_refl _, x.2)
    go (inr d) r = back (r (λ k. swap n v (f k)) below)
      where
        below : (k : ℕ) → k ≤ n → swap n v (f k) < n
        below k l = pick (swap_cases n v (f k))
          where
            pick : Swapped n v (f k) → swap n v (f k) < n
            pick (inl x) = omega (arith, x.0, x.1, h (suc n) (le_refl _), d k (omega arith))
            pick (inr x) = omega (arith, x.0, x.1, h k (omega arith))

        back : Twice n (λ k. swap n v (f k)) → Twice (suc n) f
        back x = (x.0, x.1, x.2, omega (arith, x.3), pick (swap_cases n v (f x.0)) (swap_cases n v (f x.1)))
          where
            pick : Swapped n v (f x.0) → Swapped n v (f x.1) → f x.0 ≡ f x.1
            pick (inl p) (inl q) = omega (arith, p.0, q.0)
            pick (inl p) (inr q) = absurd (d x.1 (omega (arith, x.3)) (omega (arith, p.1, q.1, x.4)))
            pick (inr p) (inl q) = absurd (d x.0 (omega (arith, x.2, x.3)) (omega (arith, p.1, q.1, x.4)))
            pick (inr p) (inr q) = omega (arith, p.1, q.1, x.4)

module _ (next : ℕ → ℕ) where
  -- a walk that has ended stays there
  pub walk_zero : (k : ℕ) → walk next k 0 ≡ 0
  unfolding walk
  walk_zero zero = refl
  walk_zero (suc k) = refl

  -- k steps after m steps
  pub walk-add : (k m x : ℕ) → walk next (k + m) x ≡ walk next k (walk next m x)
  unfolding walk
  walk-add k zero x = ap (λ (y : ℕ). walk next y x) (add-zero k)
  walk-add k (suc m) zero = walk_zero (k + suc m) ∙ sym (walk_zero k)
  walk-add k (suc m) (suc i) = ap (λ (y : ℕ). walk next y (suc i)) (add-suc k m) ∙ walk-add k m (next i)

  -- the steps of a walk from x until it ends, f at most
  steps : ℕ → ℕ → ℕ
  steps zero x = 0
  steps (suc f) zero = 0
  steps (suc f) (suc i) = suc (steps f (next i))

  steps_le : (f x : ℕ) → steps f x ≤ f
  unfolding steps
  steps_le zero x = omega arith
  steps_le (suc f) zero = omega arith
  steps_le (suc f) (suc i) = omega (arith, steps_le f (next i))

  steps_more : (f x : ℕ) → walk next f x ≡ 0 → steps (suc f) x ≡ steps f x
  unfolding steps walk
  steps_more zero zero e = refl
  steps_more zero (suc i) e = absurd (omega arith)
  steps_more (suc f) zero e = refl
  steps_more (suc f) (suc i) e = ap suc (steps_more f (next i) e)

  module _ (n : ℕ) where
    -- n less the steps from slot i to the end of its chain
    pub rank : ℕ → ℕ
    rank i = n - steps n (suc i)

    pub rank_le : (i : ℕ) → rank i ≤ n
    unfolding rank
    rank_le i = omega arith

    module _ (names : (i : ℕ) → i < n → next i ≤ n) where
      pub walk-le : (k x : ℕ) → x ≤ n → walk next k x ≤ n
      unfolding walk
      walk-le zero x h = h
      walk-le (suc k) zero h = omega arith
      walk-le (suc k) (suc i) h = walk-le k (next i) (names i h)

      module _ (free : (i k : ℕ) → i < n → 0 < k → k ≤ n → walk next k (suc i) ≢ suc i) where
        -- a walk ends within n steps: else it would meet one of the n indices twice, which would be on a loop
        pub walk_ends : (x : ℕ) → x ≤ n → walk next n x ≡ 0
        walk_ends x h = go (ℕ_discrete (walk next n x) 0)
          where
            go : Dec (walk next n x ≡ 0) → walk next n x ≡ 0
            go (yes p) = p
            go (no p) = absurd (looped (pigeon n (λ k. pred (walk next k x)) (λ k l. omega (arith, alive k l, walk-le k x h))))
              where
                alive : (k : ℕ) → k ≤ n → walk next k x ≢ 0
                alive k l q = p (ap (λ (y : ℕ). walk next y x) split ∙ walk-add (n - k) k x ∙ ap (walk next (n - k)) q ∙ walk_zero (n - k))
                  where
                    split : n ≡ n - k + k
                    split = omega arith

                looped : Twice n (λ k. pred (walk next k x)) → ⊥
                looped y = free (pred (walk next i x)) (j - i) (omega (arith, there, walk-le i x h)) (omega (arith, y.2)) (omega (arith, y.3))
                    (ap (walk next (j - i)) back ∙ sym (walk-add (j - i) i x) ∙ ap (λ (z : ℕ). walk next z x) total ∙ same)
                  where
                    i : ℕ
                    i = y.0

                    j : ℕ
                    j = y.1

                    there : walk next i x ≢ 0
                    there = alive i (omega (arith, y.2, y.3))

                    back : suc (pred (walk next i x)) ≡ walk next i x
                    back = omega (arith, there)

                    total : j - i + i ≡ j
                    total = omega (arith, y.2)

                    same : walk next j x ≡ suc (pred (walk next i x))
                    same = omega (arith, y.4, there, alive j y.3)

        -- the rank rises from a slot to the one that it names
        pub ranked : (p i : ℕ) → p < n → i < n → next p ≡ suc i → rank p < rank i
        unfolding rank steps
        ranked p i hp hi e = omega (arith, steps_le n (suc p), rw e at (sym (steps_more n (suc p) (walk_ends (suc p) hp))))
