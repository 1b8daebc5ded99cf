-- The mask gathered from a test has just the slots below n that pass it. Assumes nothing.
-- gather_took, gather-left: one slot more, as a loop goes on. gather_lt, gather_out, gather_in, gather-has: which slots it has. gather-same, gather_none: of tests
-- that agree, and of one that nothing passes. gather_mask: of the sixteen slots. below_all, below_has: all slots below n. mask_within: a mask whose slots
-- are below n.
use mathlib.Core.Path.{◌≡◌, refl, sym, ap, ◌∙◌, subst}
use mathlib.Core.Bool.{Bool, true, false, ◌&&◌, and-false}
use mathlib.Core.Logic.{⊎_elim}
use Prim.Native.Nat.{ℕ, zero, suc, ◌+◌, ◌-◌, ◌^◌, ◌≤◌, ◌<◌}
use native.Mathlib.Nat.{eq-or-lt_of_le, pow-suc, lt_of_lt_of_le, le_of_suc-le-suc}
use native.Mathlib.Numerals.{add-one}
use native.Mathlib.Omega.{arith}
use lib.Dec.{ltb}
use lib.Pow.{pow_mono, pow_pos}
use borrow.Author.Tests.{ltb-true, ltb-false, lt-ltb}
use Rattle.masks.specs.Mask.{has, with_bit, gather}
use Rattle.masks.proofs.Slots.{has_above, has_with_same, has_with_other, with_lt, mask_ext, mask_none}

-- whether slot n passes, with the mask that it leads to
step : (P : ℕ → Type 0) (p : ℕ → Bool) (n : ℕ) → (p n ≡ true → P (with_bit (gather p n) n)) → (p n ≡ false → P (gather p n)) → P (gather p (suc n))
unfolding gather
step P p n took left = go (p n) refl
  where
    go : (b : Bool) → p n ≡ b → P (elim (p n) as (λ _. ℕ) [ true ↦ with_bit (gather p n) n | false ↦ gather p n ])
    go true e = rw e (took e)
    go false e = rw e (left e)

module _ (p : ℕ → Bool) (i m : ℕ) (so : m ≡ gather p i) where
  pub gather_took : p i ≡ true → with_bit m i ≡ gather p (i + 1)
  unfolding gather
  gather_took e = ap (λ (x : ℕ). with_bit x i) so ∙ sym (rw (add-one, gather, e))

  pub gather-left : p i ≡ false → m ≡ gather p (i + 1)
  unfolding gather
  gather-left e = so ∙ sym (rw (add-one, gather, e))

pub gather_lt : (p : ℕ → Bool) (n : ℕ) → gather p n < 2 ^ n
unfolding gather
gather_lt p zero = pow_pos 0
gather_lt p (suc n) =
    let wide : gather p n < 2 ^ suc n = omega (arith, gather_lt p n, pow-suc 2 n) in
    step (λ (x : ℕ). x < 2 ^ suc n) p n
    (λ e. with_lt (suc n) (gather p n) n wide (omega arith))
    (λ e. wide)

-- slots from n on
pub gather_out : (p : ℕ → Bool) (n i : ℕ) → n ≤ i → has (gather p n) i ≡ false
gather_out p n i l = has_above n (gather p n) i (gather_lt p n) l

-- slots below n
pub gather_in : (p : ℕ → Bool) (n i : ℕ) → i < n → has (gather p n) i ≡ p i
gather_in p zero i l = absurd (omega arith)
gather_in p (suc n) i l = ⊎_elim (λ (q : i ≡ n). last q) (λ (q : i < n). before q (gather_in p n i q)) (eq-or-lt_of_le (le_of_suc-le-suc l))
  where
    last : i ≡ n → has (gather p (suc n)) i ≡ p i
    last q =
        step (λ (x : ℕ). has x i ≡ p i) p n
        (λ e. ap (has (with_bit (gather p n) n)) q ∙ has_with_same (gather p n) n ∙ sym e ∙ ap p (sym q))
        (λ e. gather_out p n i (omega arith) ∙ sym e ∙ ap p (sym q))

    before : i < n → has (gather p n) i ≡ p i → has (gather p (suc n)) i ≡ p i
    before q r =
        step (λ (x : ℕ). has x i ≡ p i) p n
        (λ e. has_with_other (gather p n) n i (λ f. omega arith) ∙ r)
        (λ e. r)

-- both at once
pub gather-has : (p : ℕ → Bool) (n i : ℕ) → has (gather p n) i ≡ (ltb i n && p i)
gather-has p n i = go (ltb i n) refl
  where
    go : (b : Bool) → ltb i n ≡ b → has (gather p n) i ≡ (b && p i)
    go true e = gather_in p n i (ltb-true i n e)
    go false e = gather_out p n i (ltb-false i n e)

-- tests that agree below n gather the same
pub gather-same : (p q : ℕ → Bool) (n : ℕ) → ((i : ℕ) → i < n → p i ≡ q i) → gather p n ≡ gather q n
gather-same p q n same =
    mask_ext n (gather p n) (gather q n) (gather_lt p n) (gather_lt q n)
    (λ i h. gather_in p n i h ∙ same i h ∙ sym (gather_in q n i h))

pub gather_none : (p : ℕ → Bool) (n : ℕ) → ((i : ℕ) → i < n → p i ≡ false) → gather p n ≡ 0
gather_none p n none = mask_none n (gather p n) (gather_lt p n) (λ i h. gather_in p n i h ∙ none i h)

-- of the sixteen slots
pub gather_mask : (p : ℕ → Bool) (n : ℕ) → n ≤ 16 → gather p n < 65536
gather_mask p n h = lt_of_lt_of_le (gather_lt p n) (pow_mono h)

-- all slots below n
below_all : (n : ℕ) → gather (λ _. true) n ≡ 2 ^ n - 1
unfolding gather with_bit
below_all zero = refl
below_all (suc n) = simp (below_all n, has_above n (2 ^ n - 1) n (omega (arith, pow_pos n)) (omega arith)) (omega (arith, pow-suc 2 n, pow_pos n))

pub below_has : (n i : ℕ) → i < n → has (2 ^ n - 1) i ≡ true
below_has n i h = ap (λ (m : ℕ). has m i) (sym (below_all n)) ∙ gather_in (λ _. true) n i h

-- ---- a mask whose slots are all below n

over_itself : (m : ℕ) → m < 2 ^ m
over_itself zero = omega arith
over_itself (suc m) = omega (arith, over_itself m, pow-suc 2 m)

pub mask_within : (m n : ℕ) → ((i : ℕ) → has m i ≡ true → i < n) → m < 2 ^ n
mask_within m n h =
    subst (λ (x : ℕ). x < 2 ^ n)
    (sym (mask_ext (m + n) m (gather (has m) n) (lt_of_lt_of_le (over_itself m) (pow_mono (omega arith))) (lt_of_lt_of_le (gather_lt (has m) n) (pow_mono (omega arith)))
    (λ i l. same i (has m i) refl ∙ sym (gather-has (has m) n i))))
    (gather_lt (has m) n)
  where
    same : (i : ℕ) (b : Bool) → has m i ≡ b → has m i ≡ (ltb i n && has m i)
    same i true e = ap (λ (b : Bool). b && has m i) (sym (lt-ltb i n (h i e)))
    same i false e = e ∙ sym (ap (λ (b : Bool). ltb i n && b) e ∙ and-false (ltb i n))
