-- sum n f: f 0 + .. + f (n - 1). given b x: x where b holds, else 0. hit x i: 1 where x is the index of slot i, else 0.
use Rattle.std.specs.Prelude.{Bool, true, false, ℕ, zero, suc, ◌+◌, eqb}

-- f summed over the numbers below n
unfoldable pub sum : ℕ → (ℕ → ℕ) → ℕ
sum zero f = 0
sum (suc n) f = sum n f + f n

-- x where b holds, else 0
abbrev pub given : Bool → ℕ → ℕ
given true x = x
given false x = 0

-- 1 where x is the index of slot i, else 0
unfoldable pub hit : ℕ → ℕ → ℕ
hit x i = given (eqb x (suc i)) 1
