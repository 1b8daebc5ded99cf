-- What the functions over links compute in masks: who is named.
use Rattle.std.specs.Prelude.{true, false, ℕ, zero, suc, ltb, leb}
use Rattle.masks.specs.Mask.{has, with_bit, gather}
use Rattle.table.specs.declared.Names.{Names}
use Rattle.table.specs.declared.Table.{Table}
use Rattle.table.specs.Links.{named}

-- the slots that records name: at least once, at least twice
unfoldable pub names_of : Table → Names
names_of t = record { once = gather (λ i. leb 1 (named t i)) t.count; twice = gather (λ i. leb 2 (named t i)) t.count }

-- the names of the records so far, with one more that names index x of n
unfoldable pub name_one : ℕ → Names → ℕ → Names
name_one n s zero = s
name_one n s (suc i) =
    elim (ltb i n) [
      | false ↦ s
      | true ↦ record { once = with_bit s.once i; twice = elim (has s.once i) [ true ↦ with_bit s.twice i | false ↦ s.twice ] }
    ]
