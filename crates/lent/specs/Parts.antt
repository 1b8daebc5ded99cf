-- Numbers that fit the fields that they are written to, so that they are read back.
use Rattle.std.specs.Prelude.{◌≡◌, List, [], ◌∷◌, ℕ, ◌^◌, ◌<◌, length}
use Rattle.lent.specs.Bytes.{Field}

-- each number of a list is below m
abbrev pub Below : ℕ → List ℕ → Type 0
Below m [] = Unit
Below m (x ∷ xs) = (x < m) × Below m xs

-- each field has its many numbers
abbrev pub Sized : List Field → List (List ℕ) → Type 0
Sized [] [] = Unit
Sized [] (v ∷ vs) = ⊥
Sized (f ∷ fs) [] = ⊥
Sized (f ∷ fs) (v ∷ vs) = (length v ≡ f.many) × Sized fs vs

-- and each of them fits its bytes
abbrev pub Fit : List Field → List (List ℕ) → Type 0
Fit [] [] = Unit
Fit [] (v ∷ vs) = ⊥
Fit (f ∷ fs) [] = ⊥
Fit (f ∷ fs) (v ∷ vs) = (length v ≡ f.many) × Below (256 ^ f.width) v × Fit fs vs
