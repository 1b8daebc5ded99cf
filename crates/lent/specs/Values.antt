-- Each number of a list taken as itself.
use Rattle.std.specs.Prelude.{◌≡◌, List, [], ◌∷◌, ℕ, map, refl}
use Rattle.std.proofs.Common.{ap}

pub same_map : (xs : List ℕ) → xs ≡ map (λ x. x) xs
same_map [] = refl
same_map (x ∷ xs) = ap (λ ys. x ∷ ys) (same_map xs)
