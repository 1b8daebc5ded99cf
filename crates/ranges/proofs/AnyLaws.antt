-- What a search by a test over a list or a range gives, as a test of the numbers below n. Assumes nothing.
-- some_at: the number that passes. not_every: one fails. any_some, any_range: a list's elements, and the numbers from 0.
use mathlib.Core.Path.{◌≡◌, refl, sym, ap, ap₂, ◌∙◌}
use mathlib.Core.Bool.{Bool, true, false, not, ◌&&◌, ◌||◌}
use mathlib.Core.List.{List}
use Prim.Native.Nat.{ℕ, zero, suc, ◌≤◌, ◌<◌}
use native.Mathlib.Nat.{le_refl}
use native.Mathlib.Numerals.{add-one}
use native.Mathlib.Omega.{arith}
use lib.ListN.{length, get_or, take}
use Rattle.std.specs.List.{list_any, range_with_len}
use Rattle.std.proofs.lemmas.List.{take_all}
use Rattle.std.proofs.lemmas.List.Folds.{list_any_more}
use Rattle.std.proofs.lemmas.List.FromFn.{length-range_with_len, get_or-range_with_len}
use Rattle.ranges.specs.Every.{every, some}
use Rattle.ranges.proofs.EveryLaws.{never_both}

module _ (p : ℕ → Bool) where
  pub some_at : (n : ℕ) → some n p ≡ true → (i : ℕ) × (i < n) × (p i ≡ true)
  unfolding some
  some_at zero e = absurd (never_both false e refl)
  some_at (suc n) e = go (some n p) refl (some_at n)
    where
      go : (b : Bool) → some n p ≡ b → (some n p ≡ true → (i : ℕ) × (i < n) × (p i ≡ true)) → (i : ℕ) × (i < suc n) × (p i ≡ true)
      go true f below = let w = below f in (w.0, omega (arith, w.1), w.2)
      go false f below = (n, omega arith, ap (λ (b : Bool). b || p n) (sym f) ∙ e)

  pub not_every : (n : ℕ) → not (every n p) ≡ some n (λ k. not (p k))
  unfolding every some
  not_every zero = refl
  not_every (suc n) = either (every n p) (p n) ∙ ap (λ (b : Bool). b || not (p n)) (not_every n)
    where
      either : (a b : Bool) → not (a && b) ≡ (not a || not b)
      either true b = refl
      either false b = refl

  pub some-same : (q : ℕ → Bool) (n : ℕ) → ((i : ℕ) → i < n → p i ≡ q i) → some n p ≡ some n q
  unfolding some
  some-same q zero h = refl
  some-same q (suc n) h = ap₂ ◌||◌ (some-same q n (λ i l. h i (omega arith))) (h n (omega arith))

module _ {X : Type 0} (p : X → Bool) (xs : List X) (d : X) where
  first : (n : ℕ) → n ≤ length xs → list_any p (take n xs) ≡ some n (λ k. p (get_or xs k d))
  unfolding some
  first zero h = refl
  first (suc n) h = ap (λ (k : ℕ). list_any p (take k xs)) (sym (add-one n)) ∙ list_any_more p xs n d (omega (arith, h)) ∙ ap (λ (b : Bool). b || p (get_or xs n d)) (first n (omega (arith, h)))

  pub any_some : list_any p xs ≡ some (length xs) (λ k. p (get_or xs k d))
  any_some = ap (list_any p) (sym (take_all (length xs) xs (le_refl (length xs)))) ∙ first (length xs) (le_refl (length xs))

pub any_range : (p : ℕ → Bool) (n : ℕ) → list_any p (range_with_len 0 n) ≡ some n p
any_range p n =
    any_some p (range_with_len 0 n) 0
    ∙ ap (λ (k : ℕ). some k (λ i. p (get_or (range_with_len 0 n) i 0))) (length-range_with_len 0 n)
    ∙ some-same (λ i. p (get_or (range_with_len 0 n) i 0)) p n (λ i l. ap p (get_or-range_with_len 0 n i 0 l ∙ omega arith))
