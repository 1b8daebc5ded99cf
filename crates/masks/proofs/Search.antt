-- The first slot of a mask: `u16::trailing_zeros` is first_of, and what first_from n i m is: the least slot that m has among i, .., i + n - 1,
-- or i + n. Then the slots of a mask taken one after the other: first_below, lowest_set, without_less. Assumes nothing.
use mathlib.Core.Path.{◌≡◌, refl, sym, ap, ◌∙◌}
use mathlib.Core.Bool.{Bool, true, false, cond}
use mathlib.Core.Logic.{◌⊎◌, inl, inr, ◌≢◌, ⊎_elim}
use Prim.Native.Nat.{ℕ, zero, suc, ◌+◌, ◌-◌, ◌/◌, ◌%◌, ◌^◌, ◌≤◌, ◌<◌}
use native.Mathlib.Nat.{eq-or-lt_of_le}
use native.Mathlib.Omega.{arith}
use lib.Dec.{eqb}
use lib.Count.{count_trailing_zeros, under}
use lib.Pow.{pow_pos}
use Rattle.masks.specs.Mask.{has, without_bit}
use Rattle.masks.specs.Parts.{first_from, first_of}
use Rattle.masks.proofs.Slots.{digit, low_lt, has_low, has_half, mask_none}

-- ---- one step of the search

pub first_here : (n i m : ℕ) → has m i ≡ true → first_from (suc n) i m ≡ i
unfolding first_from
first_here n i m e = rw (e, first_from)

pub first_later : (n i m : ℕ) → has m i ≡ false → first_from (suc n) i m ≡ first_from n (suc i) m
unfolding first_from
first_later n i m e = rw (e, first_from)

-- a claim about the first slot, by whether slot i is there
pub by_first : (P : ℕ → Type 0) (n i m : ℕ) → (has m i ≡ true → P i) → (has m i ≡ false → P (first_from n (suc i) m)) → P (first_from (suc n) i m)
by_first P n i m here later = go (has m i) refl
  where
    go : (b : Bool) → has m i ≡ b → P (first_from (suc n) i m)
    go true e = rw (first_here n i m e) (here e)
    go false e = rw (first_later n i m e) (later e)

-- ---- trailing zeros

first_half : (n i m : ℕ) → first_from n (suc i) m ≡ suc (first_from n i (m / 2))
unfolding first_from
first_half zero i m = refl
first_half (suc n) i m = go (has m (suc i)) refl (first_half n (suc i) m)
  where
    go : (b : Bool) → has m (suc i) ≡ b → first_from n (suc (suc i)) m ≡ suc (first_from n (suc i) (m / 2))
        → first_from (suc n) (suc i) m ≡ suc (first_from (suc n) i (m / 2))
    go true e r = first_here n (suc i) m e ∙ ap suc (sym (first_here n i (m / 2) (has_half m i ∙ e)))
    go false e r = first_later n (suc i) m e ∙ r ∙ ap suc (sym (first_later n i (m / 2) (has_half m i ∙ e)))

pub trailing_first : (n m : ℕ) → count_trailing_zeros n m ≡ first_from n 0 m
unfolding count_trailing_zeros first_from
trailing_first zero m = refl
trailing_first (suc n) m =
    digit (λ (d : ℕ). has m 0 ≡ eqb d 1 → under d (count_trailing_zeros n (m / 2)) ≡ first_from (suc n) 0 m)
    (λ e. ap suc (trailing_first n (m / 2)) ∙ sym (first_half n 0 m) ∙ sym (first_later n 0 m e))
    (λ e. sym (first_here n 0 m e))
    (m % 2) (low_lt m) (has_low m)

-- ---- what the first slot is

pub first_le : (n i m : ℕ) → first_from n i m ≤ i + n
unfolding first_from
first_le zero i m = omega arith
first_le (suc n) i m = by_first (λ (x : ℕ). x ≤ i + suc n) n i m (λ e. omega arith) (λ e. omega (arith, first_le n (suc i) m))

-- the mask has it, where it is one of those looked at
pub first_set : (n i m : ℕ) → first_from n i m < i + n → has m (first_from n i m) ≡ true
unfolding first_from
first_set zero i m = λ h. absurd (omega arith)
first_set (suc n) i m = by_first (λ (x : ℕ). x < i + suc n → has m x ≡ true) n i m (λ e h. e) (λ e h. first_set n (suc i) m (omega arith))

-- and has none before it
pub first_none_below : (n i m k : ℕ) → i ≤ k → k < first_from n i m → has m k ≡ false
unfolding first_from
first_none_below zero i m k l = λ h. absurd (omega arith)
first_none_below (suc n) i m k l =
    by_first (λ (x : ℕ). k < x → has m k ≡ false) n i m
    (λ e h. absurd (omega arith))
    (λ e h. ⊎_elim (λ (q : i ≡ k). ap (has m) (sym q) ∙ e) (λ (q : i < k). first_none_below n (suc i) m k q h) (eq-or-lt_of_le l))

-- the only number that is so
pub first_is : (n i m k : ℕ) → i ≤ k → k < i + n → has m k ≡ true → ((j : ℕ) → i ≤ j → j < k → has m j ≡ false) → first_from n i m ≡ k
first_is zero i m k l h e none = absurd (omega arith)
first_is (suc n) i m k l h e none =
    ⊎_elim (λ (q : i ≡ k). first_here n i m (ap (has m) q ∙ e) ∙ q)
    (λ (q : i < k). first_later n i m (none i (omega arith) q) ∙ first_is n (suc i) m k q (omega arith) e (λ j a b. none j (omega arith) b))
    (eq-or-lt_of_le l)

-- ---- of sixteen

pub first_of_le : (m : ℕ) → first_of m ≤ 16
unfolding first_of
first_of_le m = first_le 16 0 m

pub first_of_set : (m : ℕ) → first_of m < 16 → has m (first_of m) ≡ true
unfolding first_of
first_of_set m h = first_set 16 0 m h

pub first_of_below : (m k : ℕ) → k < first_of m → has m k ≡ false
unfolding first_of
first_of_below m k h = first_none_below 16 0 m k (omega arith) h

pub none_of_first : (m k : ℕ) → first_of m ≡ 16 → k < 16 → has m k ≡ false
none_of_first m k e h = first_of_below m k (omega arith)

pub zero_of_first : (m : ℕ) → m < 65536 → first_of m ≡ 16 → m ≡ 0
zero_of_first m l e = mask_none 16 m l (λ k h. none_of_first m k e h)

-- ---- the slots of a mask, taken one after the other

pub first_below : (m : ℕ) → m < 65536 → m ≢ 0 → first_of m < 16
first_below m l h = go (eq-or-lt_of_le (first_of_le m))
  where
    go : (first_of m ≡ 16) ⊎ (first_of m < 16) → first_of m < 16
    go (inl e) = absurd (h (zero_of_first m l e))
    go (inr k) = k

pub without_less : (m i : ℕ) → m ≢ 0 → has m i ≡ true → without_bit m i < m
unfolding without_bit
without_less m i h e = omega (arith, pow_pos i, ap (λ (b : Bool). cond b (m - 2 ^ i) m) e)

pub lowest_set : (m r : ℕ) → (r ≡ first_of m) × (r < 16) → has m r ≡ true
lowest_set m r h = ap (has m) h.0 ∙ first_of_set m (omega arith)
