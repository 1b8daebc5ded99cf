-- Cost of n consecutive instances, at most (document 01, 'Curves').
use Rattle.std.specs.Prelude.{List, ◌∷◌, ℕ, ◌+◌, ◌*◌, ◌/◌, ◌%◌, length, get_or}

-- E(k) for k up to m, of the entries E(1) to E(m); E(0) = 0
abbrev pub entry : List ℕ → ℕ → ℕ
entry es k = get_or (0 ∷ es) k 0

-- E(n): past the m entries, E(m) for each m instances and the entry of the rest
unfoldable pub cost : List ℕ → ℕ → ℕ
cost es n = n / length es * entry es (length es) + entry es (n % length es)
