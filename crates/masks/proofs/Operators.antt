-- What the code's operators compute: `1 << i` is (1 * 2 ^ i) % 65536, and `!x` is 65535 - x. Assumes nothing.
use mathlib.Core.Path.{◌≡◌, refl, sym, ap, ap₂, ◌∙◌}
use mathlib.Core.Bool.{not}
use Prim.Native.Nat.{ℕ, zero, suc, ◌+◌, ◌-◌, ◌*◌, ◌/◌, ◌%◌, ◌^◌, ◌≤◌, ◌<◌, min}
use native.Mathlib.Nat.{mod-eq_of_lt, zero-mul, one-mul, pow-suc}
use native.Mathlib.Omega.{arith}
use lib.Dec.{eqb}
use lib.Arith.{lt-one}
use lib.Bits.{bit_and, bit_or, and_step}
use lib.Pow.{pow_pos, pow-lt, pow_mono}
use borrow.Author.Tests.{ne_eqb}
use Rattle.masks.specs.Mask.{has, with_bit, without_bit}
use Rattle.masks.specs.Parts.{except}
use Rattle.masks.proofs.Slots.{digit, digits, bit_lt, low_lt, half_lt, and_pow, with_or, without_except}

-- the mask of one slot
one_shl : (i : ℕ) → i < 16 → (1 * 2 ^ i) % 65536 ≡ 2 ^ i
one_shl i h = ap (λ (x : ℕ). x % 2 ^ 16) (one-mul (2 ^ i)) ∙ mod-eq_of_lt (pow-lt h)

-- a bit that the other mask lacks, and one that it has
low_sum : (x y : ℕ) → x < 2 → y < 2 → min x (1 - y) + min x y ≡ x
low_sum x y h l = digits (λ (x y : ℕ). min x (1 - y) + min x y ≡ x) refl refl refl refl x y h l

-- two sums of halves and bits, taken together
joined : (x y p q u v a : ℕ) → x ≡ p * 2 + u → y ≡ q * 2 + v → p + q ≡ a / 2 → u + v ≡ a % 2 → x + y ≡ a
joined x y p q u v a e f g h = omega arith

and_not_sum : (n a b : ℕ) → a < 2 ^ n → b < 2 ^ n → bit_and a ((2 ^ n - 1) - b) + bit_and a b ≡ a
and_not_sum zero a b h l = ap (λ (x : ℕ). bit_and x (0 - b) + bit_and x b) (lt-one h) ∙ sym (lt-one h)
and_not_sum (suc n) a b h l = go ((2 ^ suc n - 1) - b) half low (and_not_sum n (a / 2) (b / 2) (half_lt n a h) (half_lt n b l))
  where
    half : ((2 ^ suc n - 1) - b) / 2 ≡ (2 ^ n - 1) - b / 2
    half = omega (arith, pow-suc 2 n, pow_pos n)

    low : ((2 ^ suc n - 1) - b) % 2 ≡ 1 - b % 2
    low = omega (arith, pow-suc 2 n, pow_pos n)

    go : (c : ℕ) → c / 2 ≡ (2 ^ n - 1) - b / 2 → c % 2 ≡ 1 - b % 2
        → bit_and (a / 2) ((2 ^ n - 1) - b / 2) + bit_and (a / 2) (b / 2) ≡ a / 2 → bit_and a c + bit_and a b ≡ a
    go c p q r =
        joined _ _ _ _ _ _ a
        (and_step a c ∙ ap₂ (λ (x y : ℕ). bit_and (a / 2) x * 2 + min (a % 2) y) p q)
        (and_step a b) r (low_sum (a % 2) (b % 2) (low_lt a) (low_lt b))

-- `a & !b` of masks of n slots: in a and not in b
pub and_not : (n a b : ℕ) → a < 2 ^ n → b < 2 ^ n → bit_and a ((2 ^ n - 1) - b) ≡ except a b
unfolding except
and_not n a b h l = omega (arith, and_not_sum n a b h l)

-- `mask & (1 << i) != 0`
pub test_law : (m i : ℕ) → i < 16 → not (eqb (bit_and m ((1 * 2 ^ i) % 65536)) 0) ≡ has m i
unfolding has
test_law m i h =
    ap (λ (x : ℕ). not (eqb (bit_and m x) 0)) (one_shl i h)
    ∙ ap (λ (x : ℕ). not (eqb x 0)) (and_pow m i)
    ∙ digit (λ (d : ℕ). not (eqb (d * 2 ^ i) 0) ≡ eqb d 1)
    (ap (λ (x : ℕ). not (eqb x 0)) (zero-mul (2 ^ i)))
    (ap not (ne_eqb (1 * 2 ^ i) 0 (λ e. omega (arith, one-mul (2 ^ i), pow_pos i))))
    (m / 2 ^ i % 2) (bit_lt m i)

-- `mask | (1 << i)`
pub set_law : (m i : ℕ) → i < 16 → bit_or m ((1 * 2 ^ i) % 65536) ≡ with_bit m i
set_law m i h = ap (bit_or m) (one_shl i h) ∙ sym (with_or m i)

-- `mask & !(1 << i)`
pub clear_law : (m i : ℕ) → i < 16 → m < 65536 → bit_and m (65535 - (1 * 2 ^ i) % 65536) ≡ without_bit m i
clear_law m i h l =
    ap (λ (x : ℕ). bit_and m (65535 - x)) (one_shl i h)
    ∙ and_not 16 m (2 ^ i) l (pow-lt h)
    ∙ sym (without_except m i)

-- `1 << n` in 32 bits
pub one_shl_32 : (n : ℕ) → n ≤ 16 → ((1 * 2 ^ n) % 4294967296 ≡ 2 ^ n) × (0 < 2 ^ n) × (2 ^ n ≤ 65536)
one_shl_32 n h = (ap (λ (x : ℕ). x % 2 ^ 32) (one-mul (2 ^ n)) ∙ mod-eq_of_lt (pow-lt {j = 32} (omega arith)), pow_pos n, pow_mono h)
