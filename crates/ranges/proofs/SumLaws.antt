-- Laws of sums over the numbers below n, and two searches over them.
-- le_or_lt, mono_upto, one_further: the order, functions that do not fall, what holds below n and at n. all_or_one: all stay within, or one does not.
-- sum-le, sum_gap, sum_lt, sum-add, sum_same: two sums compared, added, equal. sum-none, sum_one, sum_part, sum_more: a sum of nothing, one
-- of a single term, one of its terms, one term more. sum_window: the terms from t on.
-- given-le, given_up: what is given or not. hit_self, hit_other, hit-none, hit-le, sum-hit: an index that is that of a slot, and that summed over the slots.
use mathlib.Core.Path.{◌≡◌, refl, subst, sym, ap, ◌∙◌}
use mathlib.Core.Logic.{◌⊎◌, inl, inr, ◌≢◌}
use mathlib.Core.Bool.{Bool, true, false}
use Prim.Native.Nat.{ℕ, zero, suc, ◌+◌, ◌≤◌, ◌<◌}
use native.Mathlib.Nat.{eq-or-lt_of_le, lt_of_not-le, le_refl, add-zero, add-suc}
use native.Mathlib.Numerals.{add-one}
use native.Mathlib.Decide.{dec_le, ℕ_discrete}
use native.Mathlib.Omega.{arith}
use lib.Dec.{eqb}
use borrow.Author.Tests.{eq-eqb, ne_eqb}
use Rattle.ranges.specs.Sum.{sum, given, hit}

pub le_or_lt : (m n : ℕ) → (m ≤ n) ⊎ (n < m)
le_or_lt m n = pick (dec_le m n)
  where
    pick : Dec (m ≤ n) → (m ≤ n) ⊎ (n < m)
    pick (yes h) = inl h
    pick (no h) = inr (lt_of_not-le h)

-- a function that does not fall at any step below N does not fall up to N
pub mono_upto : (f : ℕ → ℕ) (N : ℕ) → ((t : ℕ) → t < N → f t ≤ f (suc t)) → (t u : ℕ) → t ≤ u → u ≤ N → f t ≤ f u
mono_upto f N step t zero l h = subst (λ (x : ℕ). f x ≤ f 0) is_zero (le_refl (f 0))
  where
    is_zero : 0 ≡ t
    is_zero = omega arith
mono_upto f N step t (suc u) l h = go (eq-or-lt_of_le l) (λ k. mono_upto f N step t u k (omega arith))
  where
    go : (t ≡ suc u) ⊎ (t < suc u) → (t ≤ u → f t ≤ f u) → f t ≤ f (suc u)
    go (inl p) w = subst (λ (x : ℕ). f x ≤ f (suc u)) (sym p) (le_refl (f (suc u)))
    go (inr k) w = omega (arith, w (omega arith), step u h)

-- what holds below n and at n holds below suc n
pub one_further : (P : ℕ → Type 0) (n : ℕ) → ((i : ℕ) → i < n → P i) → P n → (i : ℕ) → i < suc n → P i
one_further P n h p i l = go (eq-or-lt_of_le l)
  where
    go : (suc i ≡ suc n) ⊎ (suc i < suc n) → P i
    go (inl e) = subst P last p
      where
        last : n ≡ i
        last = omega arith
    go (inr k) = h i (omega arith)

module _ (f g : ℕ → ℕ) where
  pub sum-le : (n : ℕ) → ((i : ℕ) → i < n → f i ≤ g i) → sum n f ≤ sum n g
  unfolding sum
  sum-le zero h = omega arith
  sum-le (suc n) h = omega (arith, sum-le n (λ i l. h i (omega arith)), h n (omega arith))

  -- where g exceeds f by x in one place, its sum does so too
  pub sum_gap : (x n j : ℕ) → j < n → f j + x ≤ g j → ((i : ℕ) → i < n → f i ≤ g i) → sum n f + x ≤ sum n g
  unfolding sum
  sum_gap x zero j l s h = absurd (omega arith)
  sum_gap x (suc n) j l s h = go (le_or_lt n j) (λ m. sum_gap x n j m s (λ i k. h i (omega arith)))
    where
      go : (n ≤ j) ⊎ (j < n) → (j < n → sum n f + x ≤ sum n g) → sum n f + f n + x ≤ sum n g + g n
      go (inl m) r = omega (arith, sum-le n (λ i k. h i (omega arith)), subst (λ (y : ℕ). f y + x ≤ g y) last s)
        where
          last : j ≡ n
          last = omega arith
      go (inr m) r = omega (arith, r m, h n (omega arith))

  pub sum_lt : (n j : ℕ) → j < n → f j < g j → ((i : ℕ) → i < n → f i ≤ g i) → sum n f < sum n g
  sum_lt n j l s h = omega (arith, sum_gap 1 n j l (omega arith) h)

  pub sum-add : (n : ℕ) → sum n (λ i. f i + g i) ≡ sum n f + sum n g
  unfolding sum
  sum-add zero = refl
  sum-add (suc n) = omega (arith, sum-add n)

  pub sum_same : (n : ℕ) → ((i : ℕ) → i < n → f i ≡ g i) → sum n f ≡ sum n g
  unfolding sum
  sum_same zero h = refl
  sum_same (suc n) h = omega (arith, sum_same n (λ i l. h i (omega arith)), h n (omega arith))

  -- all of f stay within g, or one does not
  pub all_or_one : (n : ℕ) → ((i : ℕ) → i < n → f i ≤ g i) ⊎ ((i : ℕ) × (i < n) × (g i < f i))
  all_or_one zero = inl (λ i l. absurd (omega arith))
  all_or_one (suc n) = go (all_or_one n) (le_or_lt (f n) (g n))
    where
      go : ((i : ℕ) → i < n → f i ≤ g i) ⊎ ((i : ℕ) × (i < n) × (g i < f i)) → (f n ≤ g n) ⊎ (g n < f n)
          → ((i : ℕ) → i < suc n → f i ≤ g i) ⊎ ((i : ℕ) × (i < suc n) × (g i < f i))
      go (inr x) d = inr (x.0, omega arith, x.2)
      go (inl h) (inr l) = inr (n, omega arith, l)
      go (inl h) (inl l) = inl (one_further (λ i. f i ≤ g i) n h l)

module _ (f : ℕ → ℕ) where
  -- nothing to add
  pub sum-none : (n : ℕ) → ((i : ℕ) → i < n → f i ≡ 0) → sum n f ≡ 0
  unfolding sum
  sum-none zero h = refl
  sum-none (suc n) h = omega (arith, sum-none n (λ i l. h i (omega arith)), h n (omega arith))

  -- one term more, as a loop adds it
  pub sum_more : (n : ℕ) → sum n f + f n ≡ sum (n + 1) f
  unfolding sum
  sum_more n = ap (λ (k : ℕ). sum k f) (sym (add-one n))

  -- where all terms but one are 0, it is that one
  pub sum_one : (n j : ℕ) → j < n → ((i : ℕ) → i < n → i ≢ j → f i ≡ 0) → sum n f ≡ f j
  unfolding sum
  sum_one zero j l h = absurd (omega arith)
  sum_one (suc n) j l h = go (ℕ_discrete n j) (λ m. sum_one n j m (λ i k. h i (omega arith)))
    where
      go : Dec (n ≡ j) → (j < n → sum n f ≡ f j) → sum n f + f n ≡ f j
      go (yes e) r = omega (arith, sum-none n (λ i k. h i (omega arith) (λ q. omega arith)), ap f e)
      go (no e) r = omega (arith, r (omega arith), h n (omega arith) e)

  -- a term is within the sum
  pub sum_part : (n i : ℕ) → i < n → f i ≤ sum n f
  unfolding sum
  sum_part zero i l = omega arith
  sum_part (suc n) i l = one_further (λ j. f j ≤ sum n f + f n) n (λ j k. omega (arith, sum_part n j k)) (omega arith) i l

  -- the terms below t, and then those of a window of d from t on
  pub sum_window : (t d : ℕ) → sum (t + d) f ≡ sum t f + sum d (λ u. f (t + u))
  unfolding sum
  sum_window t zero = ap (λ (k : ℕ). sum k f) (add-zero t) ∙ sym (add-zero (sum t f))
  sum_window t (suc d) = rw add-suc (omega (arith, sum_window t d))

-- ---- an index that is that of a slot

pub given-le : (b : Bool) (x : ℕ) → given b x ≤ x
given-le true x = le_refl x
given-le false x = omega arith

pub given_up : (b : Bool) {x y : ℕ} → x ≤ y → given b x ≤ given b y
given_up true l = l
given_up false l = le_refl 0

pub hit_self : (i : ℕ) → hit (suc i) i ≡ 1
unfolding hit
hit_self i = rw (eq-eqb (suc i) (suc i) refl)

pub hit_other : (x i : ℕ) → x ≢ suc i → hit x i ≡ 0
unfolding hit
hit_other x i d = rw (ne_eqb x (suc i) d)

pub hit-none : (i : ℕ) → hit 0 i ≡ 0
hit-none i = hit_other 0 i (λ e. omega arith)

pub hit-le : (x i : ℕ) → hit x i ≤ 1
unfolding hit
hit-le x i = given-le (eqb x (suc i)) 1

pub sum-hit : (n i : ℕ) → i < n → sum n (hit (suc i)) ≡ 1
unfolding sum
sum-hit zero i h = absurd (omega arith)
sum-hit (suc n) i h = go (ℕ_discrete i n) (sum-hit n i)
  where
    go : Dec (i ≡ n) → (i < n → sum n (hit (suc i)) ≡ 1) → sum n (hit (suc i)) + hit (suc i) n ≡ 1
    go (yes p) w = omega (
      arith,
      sum-none (hit (suc i)) n (λ j l. hit_other (suc i) j (λ e. omega arith)),
      ap (hit (suc i)) (sym p) ∙ hit_self i,
    )
    go (no p) w = omega (arith, w (omega arith), hit_other (suc i) n (λ e. p (omega arith)))
