-- Which slots a mask has after one is set or cleared, and of two masks together; masks below 2 ^ n that agree on n slots are equal.
-- Everything goes by the lowest slot and the half of a mask, or by the bitwise laws of lib.Bits. Assumes nothing.
use mathlib.Core.Path.{◌≡◌, refl, sym, ap, ap₂, ◌∙◌, subst}
use mathlib.Core.Bool.{Bool, true, false, cond, not, ◌&&◌, ◌||◌, or-true, or-false}
use Prim.Native.Nat.{ℕ, zero, suc, ◌+◌, ◌-◌, ◌*◌, ◌/◌, ◌%◌, ◌^◌, ◌≤◌, ◌<◌, min}
use native.Mathlib.Nat.{mod-lt, add-zero, zero-mul, one-mul, mul_comm, div-div-eq-div-mul, div-one, div-eq_of_lt, pow-suc, lt_of_lt_of_le}
use native.Mathlib.Numerals.{add-one}
use native.Mathlib.Omega.{arith}
use lib.Dec.{eqb, eqb-suc-suc, eqb-zero-suc, eqb-suc-zero, lit<}
use lib.Arith.{lt-one}
use lib.Bits.{bit_and, bit_or, and_step, and_le_l, and_block, and_mask, and_zero_r, and_shr, and_mod, or_shr, or_mod, or_add_and, or_lt}
use lib.Pow.{split, pow_pos, pow-lt, pow_mono, shr_lt}
use borrow.Author.Tests.{eq-eqb, ne_eqb}
use Rattle.masks.specs.Mask.{has, with_bit, without_bit}
use Rattle.masks.specs.Parts.{except}

-- ---- a bit is 0 or 1

pub digit : (P : ℕ → Type 0) → P 0 → P 1 → (x : ℕ) → x < 2 → P x
digit P z o zero h = z
digit P z o (suc zero) h = o
digit P z o (suc (suc x)) h = absurd (omega arith)

pub digits : (P : ℕ → ℕ → Type 0) → P 0 0 → P 0 1 → P 1 0 → P 1 1 → (x y : ℕ) → x < 2 → y < 2 → P x y
digits P a b c d x y h l =
    digit (λ (x : ℕ). P x y)
    (digit (P 0) a b y l)
    (digit (P 1) c d y l)
    x h

pub bit_lt : (m i : ℕ) → m / 2 ^ i % 2 < 2
bit_lt m i = mod-lt (m / 2 ^ i) (lit< tt)

pub low_lt : (m : ℕ) → m % 2 < 2
low_lt m = mod-lt m (lit< tt)

-- ---- the lowest slot, and the half

pub has_low : (m : ℕ) → has m 0 ≡ eqb (m % 2) 1
unfolding has
has_low m = ap (λ (x : ℕ). eqb (x % 2) 1) (div-one m)

pub has_half : (m i : ℕ) → has (m / 2) i ≡ has m (suc i)
unfolding has
has_half m i = ap (λ (x : ℕ). eqb (x % 2) 1) (div-div-eq-div-mul m 2 (2 ^ i) ∙ ap (λ (x : ℕ). m / x) (mul_comm 2 (2 ^ i) ∙ sym (pow-suc 2 i)))

-- the lowest slot as a number
pub low_val : (m : ℕ) → cond {A = ℕ} (has m 0) 1 0 ≡ m % 2
low_val m =
    ap (λ (b : Bool). cond {A = ℕ} b 1 0) (has_low m)
    ∙ digit (λ (d : ℕ). cond {A = ℕ} (eqb d 1) 1 0 ≡ d) refl refl (m % 2) (low_lt m)

pub half_lt : (n m : ℕ) → m < 2 ^ suc n → m / 2 < 2 ^ n
half_lt n m h = shr_lt n 1 (subst (λ (x : ℕ). m < 2 ^ x) (sym (add-one n)) h)

-- ---- no slot at all, and none beyond the mask's length

pub has_above : (n m i : ℕ) → m < 2 ^ n → n ≤ i → has m i ≡ false
unfolding has
has_above n m i h l = ap (λ (x : ℕ). eqb (x % 2) 1) (div-eq_of_lt (lt_of_lt_of_le h (pow_mono l)))

pub has_zero : (i : ℕ) → has 0 i ≡ false
has_zero i = has_above 0 0 i (lit< tt) (omega arith)

-- ---- two masks

pub has_and : (a b k : ℕ) → has (bit_and a b) k ≡ (has a k && has b k)
unfolding has
has_and a b k =
    ap (λ (x : ℕ). eqb (x % 2) 1) (and_shr a b k)
    ∙ ap (λ (x : ℕ). eqb x 1) (and_mod (a / 2 ^ k) (b / 2 ^ k) 1)
    ∙ digits (λ (x y : ℕ). eqb (bit_and x y) 1 ≡ (eqb x 1 && eqb y 1)) refl refl refl refl (a / 2 ^ k % 2) (b / 2 ^ k % 2) (bit_lt a k) (bit_lt b k)

pub has_or : (a b k : ℕ) → has (bit_or a b) k ≡ (has a k || has b k)
unfolding has
has_or a b k =
    ap (λ (x : ℕ). eqb (x % 2) 1) (or_shr a b k)
    ∙ ap (λ (x : ℕ). eqb x 1) (or_mod (a / 2 ^ k) (b / 2 ^ k) 1)
    ∙ digits (λ (x y : ℕ). eqb (bit_or x y) 1 ≡ (eqb x 1 || eqb y 1)) refl refl refl refl (a / 2 ^ k % 2) (b / 2 ^ k % 2) (bit_lt a k) (bit_lt b k)

except_low : (a b : ℕ) → except a b % 2 ≡ a % 2 - min (a % 2) (b % 2)
unfolding except
except_low a b = omega (arith, and_step a b, and_le_l (a / 2) (b / 2))

pub except_half : (a b : ℕ) → except a b / 2 ≡ except (a / 2) (b / 2)
unfolding except
except_half a b = omega (arith, and_step a b, and_le_l (a / 2) (b / 2))

pub has-except : (a b k : ℕ) → has (except a b) k ≡ (has a k && not (has b k))
has-except a b zero =
    has_low (except a b)
    ∙ ap (λ (x : ℕ). eqb x 1) (except_low a b)
    ∙ digits (λ (x y : ℕ). eqb (x - min x y) 1 ≡ (eqb x 1 && not (eqb y 1))) refl refl refl refl (a % 2) (b % 2) (low_lt a) (low_lt b)
    ∙ ap₂ (λ (x y : Bool). x && not y) (sym (has_low a)) (sym (has_low b))
has-except a b (suc k) =
    sym (has_half (except a b) k)
    ∙ ap (λ (x : ℕ). has x k) (except_half a b)
    ∙ has-except (a / 2) (b / 2) k
    ∙ ap₂ (λ (x y : Bool). x && not y) (has_half a k) (has_half b k)

-- ---- one slot: the mask 2 ^ i has slot i alone

double_half : (i : ℕ) → 2 ^ suc i / 2 ≡ 2 ^ i
double_half i = omega (arith, pow-suc 2 i)

pub has-pow : (i k : ℕ) → has (2 ^ i) k ≡ eqb k i
has-pow zero zero = has_low 1
has-pow zero (suc k) = sym (has_half 1 k) ∙ has_zero k ∙ sym (eqb-suc-zero k)
has-pow (suc i) zero =
    has_low (2 ^ suc i)
    ∙ ap (λ (x : ℕ). eqb x 1) (even i)
    ∙ sym (eqb-zero-suc i)
  where
    even : (i : ℕ) → 2 ^ suc i % 2 ≡ 0
    even i = omega (arith, pow-suc 2 i)
has-pow (suc i) (suc k) =
    sym (has_half (2 ^ suc i) k)
    ∙ ap (λ (x : ℕ). has x k) (double_half i)
    ∙ has-pow i k
    ∙ sym (eqb-suc-suc k i)

pub and_pow : (m i : ℕ) → bit_and m (2 ^ i) ≡ m / 2 ^ i % 2 * 2 ^ i
and_pow m i =
    ap₂ bit_and (sym (split m i)) (sym (add-zero (1 * 2 ^ i) ∙ one-mul (2 ^ i)))
    ∙ and_block i (m / 2 ^ i) 1 (m % 2 ^ i) 0 (mod-lt m (pow_pos i)) (pow_pos i)
    ∙ ap₂ (λ (x y : ℕ). x * 2 ^ i + y) (and_mask (m / 2 ^ i) 1) (and_zero_r (m % 2 ^ i))
    ∙ add-zero (m / 2 ^ i % 2 * 2 ^ i)

pub with_or : (m i : ℕ) → with_bit m i ≡ bit_or m (2 ^ i)
unfolding has with_bit
with_or m i =
    digit (λ (d : ℕ). bit_or m (2 ^ i) + d * 2 ^ i ≡ m + 2 ^ i → cond (eqb d 1) m (m + 2 ^ i) ≡ bit_or m (2 ^ i))
    (λ e. omega (arith, zero-mul (2 ^ i)))
    (λ e. omega (arith, one-mul (2 ^ i)))
    (m / 2 ^ i % 2) (bit_lt m i)
    (ap (λ (x : ℕ). bit_or m (2 ^ i) + x) (sym (and_pow m i)) ∙ or_add_and m (2 ^ i))

pub without_except : (m i : ℕ) → without_bit m i ≡ except m (2 ^ i)
unfolding has without_bit except
without_except m i =
    digit (λ (d : ℕ). cond (eqb d 1) (m - 2 ^ i) m ≡ m - d * 2 ^ i)
    (omega (arith, zero-mul (2 ^ i)))
    (omega (arith, one-mul (2 ^ i)))
    (m / 2 ^ i % 2) (bit_lt m i)
    ∙ ap (λ (x : ℕ). m - x) (sym (and_pow m i))

-- ---- a slot set or cleared

pub has_with : (m i k : ℕ) → has (with_bit m i) k ≡ (has m k || eqb k i)
has_with m i k = ap (λ (x : ℕ). has x k) (with_or m i) ∙ has_or m (2 ^ i) k ∙ ap (λ (b : Bool). has m k || b) (has-pow i k)

pub has_without : (m i k : ℕ) → has (without_bit m i) k ≡ (has m k && not (eqb k i))
has_without m i k = ap (λ (x : ℕ). has x k) (without_except m i) ∙ has-except m (2 ^ i) k ∙ ap (λ (b : Bool). has m k && not b) (has-pow i k)

and_true : (b : Bool) → (b && true) ≡ b
and_true true = refl
and_true false = refl

and_false : (b : Bool) → (b && false) ≡ false
and_false true = refl
and_false false = refl

pub has_with_same : (m i : ℕ) → has (with_bit m i) i ≡ true
has_with_same m i = has_with m i i ∙ ap (λ (b : Bool). has m i || b) (eq-eqb i i refl) ∙ or-true (has m i)

pub has_with_other : (m i k : ℕ) → (k ≡ i → ⊥) → has (with_bit m i) k ≡ has m k
has_with_other m i k ne = has_with m i k ∙ ap (λ (b : Bool). has m k || b) (ne_eqb k i ne) ∙ or-false (has m k)

pub has_without_same : (m i : ℕ) → has (without_bit m i) i ≡ false
has_without_same m i = has_without m i i ∙ ap (λ (b : Bool). has m i && not b) (eq-eqb i i refl) ∙ and_false (has m i)

pub has_without_other : (m i k : ℕ) → (k ≡ i → ⊥) → has (without_bit m i) k ≡ has m k
has_without_other m i k ne = has_without m i k ∙ ap (λ (b : Bool). has m k && not b) (ne_eqb k i ne) ∙ and_true (has m k)

-- ---- masks of n slots stay so (n = 16: below 65536)

pub with_lt : (n m i : ℕ) → m < 2 ^ n → i < n → with_bit m i < 2 ^ n
with_lt n m i h l = rw with_or (or_lt n m (2 ^ i) h (pow-lt l))

pub except_lt : (n a b : ℕ) → a < 2 ^ n → except a b < 2 ^ n
unfolding except
except_lt n a b h = omega arith

-- ---- masks that agree

pub mask_ext : (n a b : ℕ) → a < 2 ^ n → b < 2 ^ n → ((i : ℕ) → i < n → has a i ≡ has b i) → a ≡ b
mask_ext zero a b h l same = lt-one h ∙ sym (lt-one l)
mask_ext (suc n) a b h l same =
    let low : a % 2 ≡ b % 2 = sym (low_val a) ∙ ap (λ (x : Bool). cond {A = ℕ} x 1 0) (same 0 (omega arith)) ∙ low_val b in
    let high : a / 2 ≡ b / 2 =
    mask_ext n (a / 2) (b / 2) (half_lt n a h) (half_lt n b l)
    (λ i k. has_half a i ∙ same (suc i) (omega arith) ∙ sym (has_half b i)) in
    omega arith

-- a mask of n slots that has none of them is 0
pub mask_none : (n m : ℕ) → m < 2 ^ n → ((i : ℕ) → i < n → has m i ≡ false) → m ≡ 0
mask_none n m h clear = mask_ext n m 0 h (pow_pos n) (λ i l. clear i l ∙ sym (has_zero i))
