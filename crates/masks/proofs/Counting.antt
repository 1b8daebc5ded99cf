-- How many slots a mask has: `u16::count_ones` is count_of 16, and count_of goes by the slots alone. Assumes nothing.
use mathlib.Core.Path.{◌≡◌, sym, ap, ◌∙◌}
use mathlib.Core.Bool.{Bool, true, false, cond}
use Prim.Native.Nat.{ℕ, zero, suc, ◌+◌, ◌/◌, ◌%◌, ◌^◌, ◌≤◌, ◌<◌}
use native.Mathlib.Omega.{arith}
use lib.Arith.{lt-one}
use lib.Count.{ones, ones_step}
use Rattle.masks.specs.Mask.{has, count_of}
use Rattle.masks.proofs.Slots.{low_val, has_half, half_lt}

-- the lowest slot, and the count of the half
count_low : (n m : ℕ) → count_of (suc n) m ≡ m % 2 + count_of n (m / 2)
unfolding count_of
count_low zero m = ap (λ (x : ℕ). x + 0) (low_val m)
count_low (suc n) m =
    omega (arith, count_low n m, ap (λ (b : Bool). cond {A = ℕ} b 1 0) (has_half m n))

pub ones_count : (n m : ℕ) → m < 2 ^ n → ones m ≡ count_of n m
unfolding count_of ones
ones_count zero m h = ap ones (lt-one h)
ones_count (suc n) m h =
    ones_step m
    ∙ ap (λ (x : ℕ). m % 2 + x) (ones_count n (m / 2) (half_lt n m h))
    ∙ sym (count_low n m)

-- a slot counts 1 or nothing
pub bit_le : (b : Bool) → cond {A = ℕ} b 1 0 ≤ 1
bit_le true = omega arith
bit_le false = omega arith

pub count_le : (n m : ℕ) → count_of n m ≤ n
unfolding count_of
count_le zero m = omega arith
count_le (suc n) m = omega (arith, count_le n m, bit_le (has m n))
