-- Laws of tests, and of tests over the numbers below n.
-- holds, T_holds: a test as a type and as an equation. never_both, flipped, and_holds, or_fails: of one test and of two.
-- within_passed, within_holds, contains_within: a number in a range. every: every_at, every_all, every_more, every_miss, every-same. some: some-hit, some-none, some_miss, some_more.
use mathlib.Core.Path.{◌≡◌, refl, sym, ap, ap₂, ◌∙◌, subst}
use mathlib.Core.Logic.{◌⊎◌, inl, inr}
use mathlib.Core.Bool.{Bool, true, false, not, ◌&&◌, ◌||◌, cond, or-true, true≢false}
use Prim.Native.Nat.{ℕ, zero, suc, ◌+◌, ◌≤◌, ◌<◌}
use native.Mathlib.Nat.{eq-or-lt_of_le, le_of_suc-le-suc}
use native.Mathlib.Numerals.{add-one}
use native.Mathlib.Omega.{arith}
use lib.Dec.{T, leb}
use borrow.Author.Tests.{leb-true, le-leb, lt-leb, lt-ltb, le-ltb, eq-eqb, ne_eqb}
use Rattle.std.specs.Ordering.{nat_cmp, is_le, is_lt}
use Rattle.ranges.specs.Every.{every, some, within}
use Rattle.ranges.proofs.SumLaws.{one_further, le_or_lt}

-- a test as a type and as an equation
pub holds : (b : Bool) → T b → b ≡ true
holds true t = refl
holds false t = absurd t

pub T_holds : (b : Bool) → b ≡ true → T b
T_holds b e = subst T (sym e) tt

-- a test cannot hold and fail
pub never_both : (b : Bool) → b ≡ true → b ≡ false → ⊥
never_both b e f = true≢false (sym e ∙ f)

-- a test that is turned round
pub flipped : (a b : Bool) → not a ≡ b → a ≡ not b
flipped true b e = ap not e
flipped false b e = ap not e

-- both of two tests hold
pub and_holds : (a b : Bool) → (a && b) ≡ true → (a ≡ true) × (b ≡ true)
and_holds true b e = (refl, e)
and_holds false b e = absurd (never_both false e refl)

-- neither of two tests holds
pub or_fails : (a b : Bool) → (a || b) ≡ false → (a ≡ false) × (b ≡ false)
or_fails true b e = absurd (never_both true refl e)
or_fails false b e = (refl, e)

-- a number that lies in low to high
pub within_passed : (low high x : ℕ) → within low high x ≡ true → (low ≤ x) × (x ≤ high)
within_passed low high x e = let b = and_holds (leb low x) (leb x high) e in (leb-true low x b.0, leb-true x high b.1)

pub within_holds : (low high x : ℕ) → low ≤ x → x ≤ high → within low high x ≡ true
within_holds low high x l h = ap₂ ◌&&◌ (le-leb low x l) (le-leb x high h)

-- what `contains` of low..=high answers
le_is : (x y : ℕ) → is_le (nat_cmp x y) ≡ leb x y
le_is x y = go (le_or_lt y x)
  where
    go : (y ≤ x) ⊎ (x < y) → is_le (nat_cmp x y) ≡ leb x y
    go (inr h) = simp (lt-ltb x y h, le-leb x y (omega arith))
    go (inl h) = same (eq-or-lt_of_le h)
      where
        same : (y ≡ x) ⊎ (y < x) → is_le (nat_cmp x y) ≡ leb x y
        same (inl e) = simp (le-ltb x y h, eq-eqb x y (sym e), le-leb x y (omega (arith, e)))
        same (inr l) = simp (le-ltb x y h, ne_eqb x y (λ e. omega (arith, e, l)), lt-leb x y l)

pub contains_within : (low high x a b : ℕ) (spent : Bool) → a ≡ low → b ≡ high → spent ≡ false
    → (is_le (nat_cmp a x) && cond spent (is_lt (nat_cmp x b)) (is_le (nat_cmp x b))) ≡ within low high x
contains_within low high x a b spent start end fresh =
    ap₂ ◌&&◌ (le_is a x ∙ ap (λ (l : ℕ). leb l x) start) (ap (λ (s : Bool). cond s (is_lt (nat_cmp x b)) (is_le (nat_cmp x b))) fresh ∙ le_is x b ∙ ap (leb x) end)

module _ (p : ℕ → Bool) where
  pub every_at : (n : ℕ) → every n p ≡ true → (i : ℕ) → i < n → p i ≡ true
  unfolding every
  every_at zero e i l = absurd (omega arith)
  every_at (suc n) e i l =
      one_further (λ j. p j ≡ true) n (every_at n (and_holds (every n p) (p n) e).0) (and_holds (every n p) (p n) e).1 i l

  pub every_all : (n : ℕ) → ((i : ℕ) → i < n → p i ≡ true) → every n p ≡ true
  unfolding every
  every_all zero h = refl
  every_all (suc n) h = ap₂ ◌&&◌ (every_all n (λ i l. h i (omega arith))) (h n (omega arith))

  -- one number more, as a loop goes on
  pub every_more : (n : ℕ) → every n p ≡ true → p n ≡ true → every (n + 1) p ≡ true
  unfolding every
  every_more n e f = ap (λ (k : ℕ). every k p) (add-one n) ∙ ap₂ ◌&&◌ e f

  -- one that fails
  pub every_miss : (n i : ℕ) → i < n → p i ≡ false → every n p ≡ false
  every_miss n i l f = go (every n p) refl
    where
      go : (b : Bool) → every n p ≡ b → b ≡ false
      go true e = absurd (never_both (p i) (every_at n e i l) f)
      go false e = refl

  -- two tests that agree
  pub every-same : (q : ℕ → Bool) (n : ℕ) → ((i : ℕ) → i < n → p i ≡ q i) → every n p ≡ every n q
  unfolding every
  every-same q zero h = refl
  every-same q (suc n) h = ap₂ ◌&&◌ (every-same q n (λ i l. h i (omega arith))) (h n (omega arith))

  -- one that passes
  pub some-hit : (n i : ℕ) → i < n → p i ≡ true → some n p ≡ true
  unfolding some
  some-hit zero i l f = absurd (omega arith)
  some-hit (suc n) i l f = go (eq-or-lt_of_le (le_of_suc-le-suc l)) (λ k. some-hit n i k f)
    where
      go : (i ≡ n) ⊎ (i < n) → (i < n → some n p ≡ true) → (some n p || p n) ≡ true
      go (inl q) w = ap (λ (b : Bool). some n p || b) (ap p (sym q) ∙ f) ∙ or-true (some n p)
      go (inr k) w = ap (λ (b : Bool). b || p n) (w k)

  pub some-none : (n : ℕ) → ((i : ℕ) → i < n → p i ≡ false) → some n p ≡ false
  unfolding some
  some-none zero h = refl
  some-none (suc n) h = ap₂ ◌||◌ (some-none n (λ i l. h i (omega arith))) (h n (omega arith))

  -- where none passes, each fails
  pub some_miss : (n i : ℕ) → some n p ≡ false → i < n → p i ≡ false
  some_miss n i e l = go (p i) refl
    where
      go : (b : Bool) → p i ≡ b → b ≡ false
      go true f = absurd (never_both (some n p) (some-hit n i l f) e)
      go false f = refl

  -- one number more that fails, as a loop goes on
  pub some_more : (n : ℕ) → some n p ≡ false → p n ≡ false → some (n + 1) p ≡ false
  unfolding some
  some_more n e f = ap (λ (k : ℕ). some k p) (add-one n) ∙ ap₂ ◌||◌ e f
