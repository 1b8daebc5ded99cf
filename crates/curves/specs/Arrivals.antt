-- Arrivals of a head, at most (document 01, 'Curves').
use Rattle.std.specs.Prelude.{ℕ, zero, suc, ◌+◌, ◌-◌, ◌/◌, min}

-- x / y rounded up
unfoldable pub ceiling : ℕ → ℕ → ℕ
ceiling x y = (x + (y - 1)) / y

-- a(D), of T, J and d: none in no time, whatever J; else as many as the jittered period allows, or the least distance if that is fewer
unfoldable pub arrivals : ℕ → ℕ → ℕ → ℕ → ℕ
arrivals period jitter distance zero = 0
arrivals period jitter distance (suc n) = min (ceiling (suc n + jitter) period) (ceiling (suc n) distance)
