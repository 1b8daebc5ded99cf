-- Laws of the searches, of the largest and of the smallest.
-- least: least_spec, least_found, least_by, least_is, least-within, least-same (of First and Nowhere, what a search finds).
-- rest p h d, what is left of a search of 1 to h at d: rest_start, rest_end, rest_hit, rest_miss, rest_skip.
-- lowest: lowest-hit, lowest_first, lowest-some, lowest-none, lowest-le, lowest_is, lowest_never, lowest-same.
-- rest_slots p n i, what is left of a search of the slots below n at i: slots_end, slots_hit, slots_miss.
-- largest: largest-le, largest_upper, largest-hit, largest_more. smallest: smallest_first, smallest-le, smallest-hit, smallest_more, smallest-same.
use mathlib.Core.Path.{◌≡◌, refl, ap, ap₂, sym, ◌∙◌, subst}
use mathlib.Core.Logic.{◌⊎◌, inl, inr, ◌≢◌}
use mathlib.Core.Bool.{Bool, true, false}
use Prim.Native.Nat.{ℕ, zero, suc, ◌+◌, ◌-◌, ◌≤◌, ◌<◌, min, max}
use native.Mathlib.Nat.{eq-or-lt_of_le, le_refl}
use native.Mathlib.Numerals.{add-one}
use native.Mathlib.Omega.{arith}
use Rattle.ranges.specs.Least.{least, by_index, lowest, largest, smallest}
use Rattle.ranges.proofs.SumLaws.{le_or_lt, one_further}
use Rattle.ranges.proofs.EveryLaws.{never_both}

-- r is the first of d, .., d + k - 1 that passes
pub record First (f : ℕ → Bool) (k d r : ℕ) : Type 0 where
  pub from : d ≤ r
  pub below : r < d + k
  pub passes : f r ≡ true
  pub none_before : (x : ℕ) → d ≤ x → x < r → f x ≡ false

-- none of d, .., d + k - 1 passes
abbrev pub Nowhere : (ℕ → Bool) → ℕ → ℕ → Type 0
Nowhere f k d = (x : ℕ) → d ≤ x → x < d + k → f x ≡ false

module _ (f : ℕ → Bool) where
  -- what a search that gives r has found
  abbrev pub Searched : ℕ → ℕ → ℕ → Type 0
  Searched k d r = ((r ≡ 0) × Nowhere f k d) ⊎ First f k d r

  pub least_spec : (k d : ℕ) → Searched k d (least f k d)
  unfolding least
  least_spec zero d = inl (refl, λ x l h. absurd (omega arith))
  least_spec (suc k) d = go (f d) refl (least_spec k (suc d))
    where
      -- where d fails, what holds past d holds from d on
      past : (x : ℕ) → f d ≡ false → (d ≡ x) ⊎ (d < x) → (d < x → f x ≡ false) → f x ≡ false
      past x e (inl p) w = ap f (sym p) ∙ e
      past x e (inr l) w = w l

      go : (b : Bool) → f d ≡ b → Searched k (suc d) (least f k (suc d)) → Searched (suc k) d (elim b [ true ↦ d | false ↦ least f k (suc d) ])
      go true e s = inr (record { from = le_refl d; below = omega arith; passes = e; none_before = λ x l h. absurd (omega arith) })
      go false e (inl s) = inl (s.0, λ x l h. past x e (eq-or-lt_of_le l) (λ m. s.1 x m (omega arith)))
      go false e (inr s) = inr (record {
        from = omega (arith, s.from);
        below = omega (arith, s.below);
        passes = s.passes;
        none_before = λ x l h. past x e (eq-or-lt_of_le l) (λ m. s.none_before x m h);
      })

  pub least_found : (k d : ℕ) → least f k d ≢ 0 → First f k d (least f k d)
  least_found k d h = go (least_spec k d)
    where
      go : Searched k d (least f k d) → First f k d (least f k d)
      go (inl x) = absurd (h x.0)
      go (inr x) = x

  -- where x passes there is a first, and it is x at the latest
  pub least_by : (k d x : ℕ) → d ≤ x → x < d + k → f x ≡ true → First f k d (least f k d) × (least f k d ≤ x)
  least_by k d x l h t = go (least_spec k d)
    where
      go : Searched k d (least f k d) → First f k d (least f k d) × (least f k d ≤ x)
      go (inl y) = absurd (never_both (f x) t (y.1 x l h))
      go (inr y) = (y, decide (le_or_lt (least f k d) x))
        where
          decide : (least f k d ≤ x) ⊎ (x < least f k d) → least f k d ≤ x
          decide (inl m) = m
          decide (inr m) = absurd (never_both (f x) t (y.none_before x l m))

  -- there is only one first
  pub least_is : (k d r : ℕ) → First f k d r → least f k d ≡ r
  least_is k d r s = go (least_by k d r s.from s.below s.passes)
    where
      go : First f k d (least f k d) × (least f k d ≤ r) → least f k d ≡ r
      go x = decide (eq-or-lt_of_le x.1)
        where
          decide : (least f k d ≡ r) ⊎ (least f k d < r) → least f k d ≡ r
          decide (inl e) = e
          decide (inr l) = absurd (never_both (f (least f k d)) x.0.passes (s.none_before (least f k d) x.0.from l))

  -- a longer search finds what a shorter one found
  pub least-within : (k m d : ℕ) → m ≤ k → least f m d ≢ 0 → least f k d ≡ least f m d
  least-within k m d l h =
      let s : First f m d (least f m d) = least_found m d h in
      least_is k d (least f m d) (record { from = s.from; below = omega (arith, s.below); passes = s.passes; none_before = s.none_before })

-- two tests that agree on what is searched
pub least-same : (f g : ℕ → Bool) (k d : ℕ) → ((x : ℕ) → d ≤ x → x < d + k → f x ≡ g x) → least f k d ≡ least g k d
unfolding least
least-same f g zero d h = refl
least-same f g (suc k) d h =
    ap₂ (λ (b : Bool) (r : ℕ). elim b [ true ↦ d | false ↦ r ]) (h d (le_refl d) (omega arith)) (least-same f g k (suc d) (λ x l m. h x (omega arith) (omega arith)))

-- what is left at d of a search of 1 to h
abbrev pub rest : (ℕ → Bool) → ℕ → ℕ → ℕ
rest p h d = least p (h + 1 - d) d

module _ (p : ℕ → Bool) (h : ℕ) where
  pub rest_start : rest p h 1 ≡ least p h 1
  rest_start = ap (λ (k : ℕ). least p k 1) (omega arith)

  pub rest_end : (d : ℕ) → h < d → rest p h d ≡ 0
  unfolding least
  rest_end d l = let e : h + 1 - d ≡ 0 = omega arith in ap (λ (k : ℕ). least p k d) e

  one_more : (d : ℕ) → d ≤ h → rest p h d ≡ elim (p d) [ true ↦ d | false ↦ rest p h (d + 1) ]
  unfolding least
  one_more d l =
      let e : h + 1 - d ≡ suc (h - d) = omega arith in
      let f : h + 1 - (d + 1) ≡ h - d = omega arith in
      ap (λ (k : ℕ). least p k d) e ∙ ap₂ (λ (x k : ℕ). elim (p d) [ true ↦ d | false ↦ least p k x ]) (sym (add-one d)) (sym f)

  pub rest_hit : (d : ℕ) → d ≤ h → p d ≡ true → rest p h d ≡ d
  rest_hit d l t = one_more d l ∙ ap (λ (b : Bool). elim b [ true ↦ d | false ↦ rest p h (d + 1) ]) t

  pub rest_miss : (d : ℕ) → d ≤ h → p d ≡ false → rest p h d ≡ rest p h (d + 1)
  rest_miss d l t = one_more d l ∙ ap (λ (b : Bool). elim b [ true ↦ d | false ↦ rest p h (d + 1) ]) t

  -- a search may go on from e where nothing from d on passes before e
  pub rest_skip : (d e : ℕ) → d ≤ e → ((x : ℕ) → d ≤ x → x < e → x ≤ h → p x ≡ false) → rest p h d ≡ rest p h e
  rest_skip d zero l f = let e : d ≡ 0 = omega arith in ap (rest p h) e
  rest_skip d (suc e) l f = go (eq-or-lt_of_le l) (le_or_lt e h) (λ k. rest_skip d e k (λ x i j. f x i (omega arith)))
    where
      go : (d ≡ suc e) ⊎ (d < suc e) → (e ≤ h) ⊎ (h < e) → (d ≤ e → rest p h d ≡ rest p h e) → rest p h d ≡ rest p h (suc e)
      go (inl q) c w = ap (rest p h) q
      go (inr k) (inl i) w = w (omega arith) ∙ rest_miss e i (f e (omega arith) (omega arith) i) ∙ ap (rest p h) (add-one e)
      go (inr k) (inr i) w = w (omega arith) ∙ rest_end e i ∙ sym (rest_end (suc e) (omega arith))

-- ---- the lowest slot

module _ (p : ℕ → Bool) (n : ℕ) where
  found : (i : ℕ) → lowest p n ≡ suc i → First (by_index p) n 1 (suc i)
  found i e = subst (First (by_index p) n 1) e (least_found (by_index p) n 1 (λ z. omega arith))

  -- the slot found is below n and passes
  pub lowest-hit : (i : ℕ) → lowest p n ≡ suc i → (i < n) × (p i ≡ true)
  lowest-hit i e = (omega (arith, (found i e).below), (found i e).passes)

  -- nothing lower passes
  pub lowest_first : (i j : ℕ) → lowest p n ≡ suc i → j < i → p j ≡ false
  lowest_first i j e l = (found i e).none_before (suc j) (omega arith) (omega arith)

  -- where one passes there is a lowest
  pub lowest-some : (j : ℕ) → j < n → p j ≡ true → lowest p n ≢ 0
  lowest-some j l t z = omega (arith, (least_by (by_index p) n 1 (suc j) (omega arith) (omega arith) t).0.from)

  -- where there is none, none passes
  pub lowest-none : lowest p n ≡ 0 → (j : ℕ) → j < n → p j ≡ false
  lowest-none z j l = go (p j) refl
    where
      go : (b : Bool) → p j ≡ b → b ≡ false
      go true e = absurd (lowest-some j l e z)
      go false e = refl

  pub lowest-le : lowest p n ≤ n
  lowest-le = go (lowest p n) refl
    where
      go : (r : ℕ) → lowest p n ≡ r → r ≤ n
      go zero e = omega arith
      go (suc i) e = (lowest-hit i e).0

  -- the only slot that is so
  pub lowest_is : (i : ℕ) → i < n → p i ≡ true → ((j : ℕ) → j < i → p j ≡ false) → lowest p n ≡ suc i
  lowest_is i l e none = least_is (by_index p) n 1 (suc i) (record { from = omega arith; below = omega arith; passes = e; none_before = before })
    where
      before : (x : ℕ) → 1 ≤ x → x < suc i → by_index p x ≡ false
      before zero a b = refl
      before (suc j) a b = none j (omega arith)

  pub lowest_never : ((i : ℕ) → i < n → p i ≡ false) → lowest p n ≡ 0
  lowest_never none = go (lowest p n) refl
    where
      go : (r : ℕ) → lowest p n ≡ r → r ≡ 0
      go zero e = refl
      go (suc i) e = absurd (never_both (p i) (lowest-hit i e).1 (none i (lowest-hit i e).0))

pub lowest-same : (p q : ℕ → Bool) (n : ℕ) → ((i : ℕ) → i < n → p i ≡ q i) → lowest p n ≡ lowest q n
lowest-same p q n h = least-same (by_index p) (by_index q) n 1 agree
  where
    agree : (x : ℕ) → 1 ≤ x → x < 1 + n → by_index p x ≡ by_index q x
    agree zero l k = refl
    agree (suc i) l k = h i (omega arith)

-- what is left at slot i of a search of the slots below n
abbrev pub rest_slots : (ℕ → Bool) → ℕ → ℕ → ℕ
rest_slots p n i = rest (by_index p) n (suc i)

module _ (p : ℕ → Bool) (n : ℕ) where
  pub slots_start : rest_slots p n 0 ≡ lowest p n
  slots_start = rest_start (by_index p) n

  pub slots_end : (i : ℕ) → n ≤ i → rest_slots p n i ≡ 0
  slots_end i l = rest_end (by_index p) n (suc i) (omega arith)

  pub slots_hit : (i : ℕ) → i < n → p i ≡ true → rest_slots p n i ≡ i + 1
  slots_hit i l t = rest_hit (by_index p) n (suc i) l t ∙ sym (add-one i)

  pub slots_miss : (i : ℕ) → i < n → p i ≡ false → rest_slots p n i ≡ rest_slots p n (i + 1)
  slots_miss i l t = let e : suc i + 1 ≡ suc (i + 1) = omega arith in rest_miss (by_index p) n (suc i) l t ∙ ap (rest (by_index p) n) e

-- ---- the largest

module _ (f : ℕ → ℕ) where
  -- each is at most the largest
  pub largest-le : (n i : ℕ) → i < n → f i ≤ largest n f
  unfolding largest
  largest-le zero i l = absurd (omega arith)
  largest-le (suc n) i l = one_further (λ j. f j ≤ max (largest n f) (f n)) n (λ j k. omega (arith, largest-le n j k)) (omega arith) i l

  -- the largest is at most b if each is
  pub largest_upper : (b n : ℕ) → ((i : ℕ) → i < n → f i ≤ b) → largest n f ≤ b
  unfolding largest
  largest_upper b zero h = omega arith
  largest_upper b (suc n) h = omega (arith, largest_upper b n (λ i l. h i (omega arith)), h n (omega arith))

  -- a largest over 0 is one of them
  pub largest-hit : (n : ℕ) → 0 < largest n f → (i : ℕ) × (i < n) × (f i ≡ largest n f)
  unfolding largest
  largest-hit zero h = absurd (omega arith)
  largest-hit (suc n) h = go (le_or_lt (largest n f) (f n)) (largest-hit n)
    where
      go : (largest n f ≤ f n) ⊎ (f n < largest n f) → (0 < largest n f → (i : ℕ) × (i < n) × (f i ≡ largest n f))
          → (i : ℕ) × (i < suc n) × (f i ≡ max (largest n f) (f n))
      go (inl l) r = (n, le_refl _, omega arith)
      go (inr l) r = (let x = r (omega arith) in (x.0, omega (arith, x.1), omega (arith, x.2)))

  -- one more of them, as a loop adds it
  pub largest_more : (n : ℕ) → max (largest n f) (f n) ≡ largest (n + 1) f
  unfolding largest
  largest_more n = ap (λ (k : ℕ). largest k f) (sym (add-one n))

-- ---- the smallest

module _ (x : ℕ) where
  module _ (f : ℕ → ℕ) where
    -- the smallest is at most the first
    pub smallest_first : (n : ℕ) → smallest x n f ≤ x
    unfolding smallest
    smallest_first zero = le_refl x
    smallest_first (suc n) = omega (arith, smallest_first n)

    -- and at most each of the others
    pub smallest-le : (n i : ℕ) → i < n → smallest x n f ≤ f i
    unfolding smallest
    smallest-le zero i l = absurd (omega arith)
    smallest-le (suc n) i l = one_further (λ j. min (smallest x n f) (f n) ≤ f j) n (λ j k. omega (arith, smallest-le n j k)) (omega arith) i l

    -- it is one of them
    pub smallest-hit : (n : ℕ) → (smallest x n f ≡ x) ⊎ ((i : ℕ) × (i < n) × (smallest x n f ≡ f i))
    unfolding smallest
    smallest-hit zero = inl refl
    smallest-hit (suc n) = go (le_or_lt (smallest x n f) (f n)) (smallest-hit n)
      where
        go : (smallest x n f ≤ f n) ⊎ (f n < smallest x n f) → (smallest x n f ≡ x) ⊎ ((i : ℕ) × (i < n) × (smallest x n f ≡ f i))
            → (min (smallest x n f) (f n) ≡ x) ⊎ ((i : ℕ) × (i < suc n) × (min (smallest x n f) (f n) ≡ f i))
        go (inr l) r = inr (n, le_refl _, omega arith)
        go (inl l) (inl e) = inl (omega arith)
        go (inl l) (inr y) = inr (y.0, omega (arith, y.1), omega (arith, y.2))

    -- one more of them, as a loop adds it
    pub smallest_more : (n : ℕ) → min (smallest x n f) (f n) ≡ smallest x (n + 1) f
    unfolding smallest
    smallest_more n = ap (λ (k : ℕ). smallest x k f) (sym (add-one n))

  -- of the same numbers it is the same
  pub smallest-same : (f g : ℕ → ℕ) (n : ℕ) → ((i : ℕ) → i < n → f i ≡ g i) → smallest x n f ≡ smallest x n g
  unfolding smallest
  smallest-same f g zero h = refl
  smallest-same f g (suc n) h = ap₂ min (smallest-same f g n (λ i l. h i (omega arith))) (h n (omega arith))
