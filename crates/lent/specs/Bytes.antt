-- Numbers in bytes, little-endian (document 01, 'The callback table'), and fields of them one behind the other.
-- get, le: one number of w bytes, read and written. numbers, run: several of one width. zeros: whether a run of bytes is zero.
-- Field: so many numbers of so many bytes each. fields_at, field_bytes: a list of fields, read and written. size_of: the bytes that they take.
use Rattle.std.specs.Prelude.{Bool, List, [], ◌∷◌, ◌++◌, ℕ, zero, suc, ◌+◌, ◌*◌, ◌/◌, ◌%◌, get_or, eqb}
use Rattle.ranges.specs.Every.{every}

-- the number in the w bytes from k on
abbrev pub get : ℕ → List ℕ → ℕ → ℕ
get zero b k = 0
get (suc zero) b k = get_or b k 0
get (suc (suc w)) b k = get_or b k 0 + get (suc w) b (k + 1) * 256

-- the w bytes of a number below 256 ^ w
abbrev pub le : ℕ → ℕ → List ℕ
le zero x = []
le (suc w) x = x % 256 ∷ le w (x / 256)

-- n numbers of w bytes, the first of them o bytes behind k
unfoldable pub numbers : ℕ → List ℕ → ℕ → ℕ → ℕ → List ℕ
numbers w b k o zero = []
numbers w b k o (suc n) = get w b (k + o) ∷ numbers w b k (o + w) n

-- numbers of w bytes, one behind the other
unfoldable pub run : ℕ → List ℕ → List ℕ
run w [] = []
run w (x ∷ xs) = le w x ++ run w xs

-- whether the n bytes from k on are zero
unfoldable pub zeros : List ℕ → ℕ → ℕ → Bool
zeros b k n = every n (λ i. eqb (get_or b (k + i) 0) 0)

-- a field: how many bytes each of its numbers takes, and how many they are
pub record Field : Type 0 where
  pub width : ℕ
  pub many : ℕ

abbrev pub field : ℕ → ℕ → Field
field w n = record { width = w; many = n }

-- the bytes that fields take
abbrev pub size_of : List Field → ℕ
size_of [] = 0
size_of (f ∷ fs) = f.width * f.many + size_of fs

-- the numbers of each field, the first field o bytes behind k
unfoldable pub fields_at : List Field → List ℕ → ℕ → ℕ → List (List ℕ)
fields_at [] b k o = []
fields_at (f ∷ fs) b k o = numbers f.width b k o f.many ∷ fields_at fs b k (o + f.width * f.many)

-- the bytes of each field's numbers
unfoldable pub field_bytes : List Field → List (List ℕ) → List ℕ
field_bytes [] vs = []
field_bytes (f ∷ fs) [] = []
field_bytes (f ∷ fs) (v ∷ vs) = run f.width v ++ field_bytes fs vs
