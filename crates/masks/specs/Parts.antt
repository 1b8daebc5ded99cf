-- What the functions on masks give beyond what document 01 says by masks. both, except: two masks. first_from, first_of: a search.
-- first_index, some_index: the slot found, as an index. takes_lowest: the slots of a mask one after the other.
use Rattle.std.specs.Prelude.{ℕ, zero, suc, ◌-◌, eqb, true, false, Option, Some, None, ◌≡◌, ◌<◌}
use Rattle.std.specs.Int.Bits.{bit_and}
use Rattle.std.specs.Option.{MatchOption}
use Rattle.masks.specs.Mask.{has, without_bit}
use Rattle.masks.specs.declared.SlotsLeft.{SlotsLeft}

-- the slots that are in a and in b
abbrev pub both : ℕ → ℕ → ℕ
both a b = bit_and a b

-- the slots that are in a and not in b
unfoldable pub except : ℕ → ℕ → ℕ
except a b = a - bit_and a b

-- the first of the slots i, i + 1, .. (n of them) that is in m, i + n where none is
unfoldable pub first_from : ℕ → ℕ → ℕ → ℕ
first_from zero i m = i
first_from (suc n) i m = elim (has m i) [ true ↦ i | false ↦ first_from n (suc i) m ]

-- the first slot that is in m, 16 where none is
unfoldable pub first_of : ℕ → ℕ
first_of m = first_from 16 0 m

-- the lowest slot of a mask as an index, or 0
unfoldable pub first_index : ℕ → ℕ
first_index m = elim (eqb m 0) [ true ↦ 0 | false ↦ suc (first_of m) ]

-- an index, and nothing where it is 0
abbrev pub some_index : ℕ → Option ℕ
some_index zero = None
some_index (suc i) = Some (suc i)

-- a step over the slots of a mask: it takes out the lowest one, until none is left
abbrev pub takes_lowest : SlotsLeft → Option ℕ → SlotsLeft → Type 0
takes_lowest s r t = MatchOption r ((s.mask ≡ 0) × (t.mask ≡ 0)) (λ x. (x ≡ first_of s.mask) × (x < 16) × (t.mask ≡ without_bit s.mask x))
