-- Supply, at least (document 01, 'Curves': the periodic resource model cited by 003), and behind a start delay (document 02, U2).
-- delayed_supply is the curve that the sheet and the guarantee rest on; nothing but it asks for supply.
use Rattle.std.specs.Prelude.{true, false, ℕ, ◌+◌, ◌*◌, ◌-◌, ◌/◌, ltb}

-- s(D) from g on: Q for each of the k whole periods behind the first gap, and of the rest what lies beyond a second gap
abbrev pub supplied_past : ℕ → ℕ → ℕ → ℕ → ℕ
supplied_past budget period g n = let k : ℕ = (n - g) / period in k * budget + (n - (2 * g + k * period))

-- s(D), of Q and P: with g = P - Q, 0 for D below g
unfoldable pub supply : ℕ → ℕ → ℕ → ℕ
supply budget period n =
    let g : ℕ = period - budget in
    elim (ltb n g) [ true ↦ 0 | false ↦ supplied_past budget period g n ]

-- the supply of a table, of Q, P and Z (document 02, U2): s(D - Z), and 0 for D below Z
unfoldable pub delayed_supply : ℕ → ℕ → ℕ → ℕ → ℕ
delayed_supply budget period delay n = elim (ltb n delay) [ true ↦ 0 | false ↦ supply budget period (n - delay) ]
