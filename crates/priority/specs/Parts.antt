-- What the functions over kinds compute in masks. kinds_to, kinds_of, sort_one: the callbacks of each kind. foremost_in: the first in priority.
use Rattle.std.specs.Prelude.{Bool, true, false, ℕ, zero, suc, eqb}
use Rattle.masks.specs.Mask.{with_bit, gather}
use Rattle.masks.specs.Parts.{both, first_index}
use Rattle.numbers.specs.Numbers.{timer, subscription, service, client}
use Rattle.table.specs.declared.Table.{Table}
use Rattle.table.specs.Values.{kind_of}
use Rattle.priority.specs.declared.Kinds.{Kinds}

-- the slots of each kind, among the first n
unfoldable pub kinds_to : Table → ℕ → Kinds
kinds_to t n =
    record {
      timers = gather (λ i. eqb (kind_of t i) timer) n;
      subscriptions = gather (λ i. eqb (kind_of t i) subscription) n;
      services = gather (λ i. eqb (kind_of t i) service) n;
      clients = gather (λ i. eqb (kind_of t i) client) n;
    }

abbrev pub kinds_of : Table → Kinds
kinds_of t = kinds_to t t.count

-- the mask with slot i where the test holds
abbrev pub with_if : Bool → ℕ → ℕ → ℕ
with_if b m i = elim b [ true ↦ with_bit m i | false ↦ m ]

-- one slot more, of the given kind
unfoldable pub sort_one : Kinds → ℕ → ℕ → Kinds
sort_one k kind i =
    record {
      timers = with_if (eqb kind timer) k.timers i;
      subscriptions = with_if (eqb kind subscription) k.subscriptions i;
      services = with_if (eqb kind service) k.services i;
      clients = with_if (eqb kind client) k.clients i;
    }

-- an index, or what follows where it is 0
abbrev pub or_next : ℕ → ℕ → ℕ
or_next x y = elim x [ zero ↦ y | suc i ↦ suc i ]

-- the first callback in priority that the mask has, found in the kinds' masks: an index, or 0
unfoldable pub foremost_in : Kinds → ℕ → ℕ
foremost_in k m =
    or_next (first_index (both k.timers m))
    (or_next (first_index (both k.subscriptions m))
    (or_next (first_index (both k.services m))
    (first_index (both k.clients m))))
