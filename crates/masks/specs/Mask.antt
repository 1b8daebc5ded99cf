-- A mask as a number: bit i is m / 2 ^ i % 2, and stands for the callback in slot i, callback i + 1 (document 01, 'One tick of the machine').
-- has, with_bit, without_bit: one slot. count_of: how many slots. gather: the slots that pass a test.
use Rattle.std.specs.Prelude.{ℕ, zero, suc, ◌+◌, ◌-◌, ◌/◌, ◌%◌, ◌^◌, Bool, true, false, cond, eqb}

-- whether slot i is in m: bit i, which is the bit of callback i + 1
unfoldable pub has : ℕ → ℕ → Bool
has m i = eqb (m / 2 ^ i % 2) 1

-- m with slot i in it
unfoldable pub with_bit : ℕ → ℕ → ℕ
with_bit m i = cond (has m i) m (m + 2 ^ i)

-- m without slot i
unfoldable pub without_bit : ℕ → ℕ → ℕ
without_bit m i = cond (has m i) (m - 2 ^ i) m

-- how many of the slots below n are in m (what a polling point tells beside its answer)
unfoldable pub count_of : ℕ → ℕ → ℕ
count_of zero m = 0
count_of (suc n) m = cond (has m n) 1 0 + count_of n m

-- the mask of the slots below n that pass p (what a polling point puts in the cache)
unfoldable pub gather : (ℕ → Bool) → ℕ → ℕ
gather p zero = 0
gather p (suc n) = elim (p n) [ true ↦ with_bit (gather p n) n | false ↦ gather p n ]
