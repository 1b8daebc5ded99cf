-- Along chains with one feeder each, the activations of i's head are what flows into i: what Flow's runs asks of activations.
--   given_yes, given_no   what `given` gives where its test holds, or not
--   fed-none, fed-one     what flows into a callback that none, or just one, feeds
--   any                   some callback feeds i, or none does
--   chain_in              the flow of activations along chains
use mathlib.Core.Path.{◌≡◌, refl, subst, sym}
use mathlib.Core.Logic.{◌⊎◌, inl, inr}
use mathlib.Core.Bool.{Bool, true, false}
use Prim.Native.Nat.{ℕ, zero, suc, ◌+◌, ◌<◌}
use native.Mathlib.Nat.{le_refl, zero-add, add-zero, eq-or-lt_of_le}
use native.Mathlib.Decide.{ℕ_discrete}
use native.Mathlib.Omega.{arith}
use lib.Dec.{T}
use Rattle.ranges.specs.Sum.{sum, given}
use Rattle.ranges.proofs.SumLaws.{sum-none}
use Rattle.busy_window.specs.Flow.{fed}
use Rattle.busy_window.specs.Chain.{Chains}

pub given_no : (b : Bool) (x : ℕ) → ¬ (T b) → given b x ≡ 0
given_no true x h = absurd (h tt)
given_no false x h = refl

pub given_yes : (b : Bool) (x : ℕ) → T b → given b x ≡ x
given_yes true x h = refl
given_yes false x h = absurd h

module _ (feeds : ℕ → ℕ → Bool) (i : ℕ) where
  -- some callback below n feeds i
  abbrev pub Fed : ℕ → Type 0
  Fed n = (p : ℕ) × (p < n) × T (feeds p i)

  -- no callback below n feeds i
  abbrev pub Unfed : ℕ → Type 0
  Unfed n = (p : ℕ) → p < n → ¬ (T (feeds p i))

  pub any : (n : ℕ) → Fed n ⊎ Unfed n
  any zero = inr (λ p l. absurd (omega arith))
  any (suc n) = go (any n) (feeds n i) refl
    where
      go : Fed n ⊎ Unfed n → (b : Bool) → feeds n i ≡ b → Fed (suc n) ⊎ Unfed (suc n)
      go (inl x) b e = inl (x.0, omega (arith, x.1), x.2)
      go (inr f) true e = inl (n, le_refl _, subst T (sym e) tt)
      go (inr f) false e = inr (λ p l t. pick p t (eq-or-lt_of_le l))
        where
          pick : (p : ℕ) → T (feeds p i) → (suc p ≡ suc n) ⊎ (suc p < suc n) → ⊥
          pick p t (inl q) = (let r : p ≡ n = omega arith in subst T e (subst (λ (y : ℕ). T (feeds y i)) r t))
          pick p t (inr q) = f p (omega arith) t

  module _ (g : ℕ → ℕ) where
    pub fed-none : (n : ℕ) → Unfed n → fed feeds n g i ≡ 0
    unfolding fed sum
    fed-none zero h = refl
    fed-none (suc n) h = omega (arith, fed-none n (λ p l. h p (omega arith)), given_no (feeds n i) (g n) (h n (omega arith)))

    pub fed-one : (n p : ℕ) → p < n → T (feeds p i) → ((q : ℕ) → q < n → T (feeds q i) → p ≡ q) → fed feeds n g i ≡ g p
    unfolding fed sum
    fed-one zero p l t h = absurd (omega arith)
    fed-one (suc n) p l t h = go (ℕ_discrete p n) (λ k. fed-one n p k t (λ q m. h q (omega arith)))
      where
        go : Dec (p ≡ n) → (p < n → fed feeds n g i ≡ g p) → fed feeds n g i + given (feeds n i) (g n) ≡ g p
        go (yes e) w = rw (fed-none n (λ q m x. absurd (omega (arith, h q (omega arith) x))), ← e, given_yes (feeds p i) (g p) t, zero-add)
        go (no e) w = rw (w (omega arith), given_no (feeds n i) (g n) (λ x. e (h n (omega arith) x)), add-zero)

-- only heads are in the masks: then a callback's activations at its head are those in the mask and those of its feeder
pub chain_in : (n : ℕ) (feeds : ℕ → ℕ → Bool) (head : ℕ → ℕ) (arrives : ℕ → ℕ → ℕ) → Chains n feeds head
    → ((p i u : ℕ) → p < n → i < n → T (feeds p i) → arrives i u ≡ 0)
    → (i t : ℕ) → i < n → sum t (arrives (head i)) ≡ sum t (arrives i) + fed feeds n (λ p. sum t (arrives (head p))) i
chain_in n feeds head arrives c z i t l = go (any feeds i n)
  where
    go : Fed feeds i n ⊎ Unfed feeds i n → sum t (arrives (head i)) ≡ sum t (arrives i) + fed feeds n (λ p. sum t (arrives (head p))) i
    go (inl x) = rw (
      fed-one feeds i (λ p. sum t (arrives (head p))) n x.0 x.1 x.2 (λ q m s. c.once x.0 q i x.1 m x.2 s),
      c.down x.0 i x.1 l x.2,
      sum-none (arrives i) t (λ u _. z x.0 i u x.1 l x.2),
      zero-add,
    )
    go (inr f) = rw (fed-none feeds i (λ p. sum t (arrives (head p))) n f, c.top i l f, add-zero)
