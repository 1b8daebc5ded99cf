-- Chains in which each callback is fed by one other at most ('no callback is named twice').
use Rattle.std.specs.Prelude.{◌≡◌, Bool, ℕ, ◌<◌, T}

-- head i is the head of i's chain, feeds p i says that p names i as next
pub record Chains (n : ℕ) (feeds : ℕ → ℕ → Bool) (head : ℕ → ℕ) : Type 0 where
  -- no callback is named twice
  pub once : (p q i : ℕ) → p < n → q < n → T (feeds p i) → T (feeds q i) → p ≡ q
  -- a head's head is itself
  pub top : (i : ℕ) → i < n → ((p : ℕ) → p < n → ¬ (T (feeds p i))) → head i ≡ i
  -- a follower's head is that of the callback which names it
  pub down : (p i : ℕ) → p < n → i < n → T (feeds p i) → head i ≡ head p
