-- The kinds of callbacks by their numbers.
use Rattle.std.specs.Prelude.{ℕ, cond, eqb, Result, Ok, Err}
use Rattle.numbers.specs.Numbers
use Rattle.table.specs.declared.kinds.Kind.{Kind}
use Rattle.table.specs.declared.kinds.Kind.TheVariants.{Timer, Subscription, Service, Client}
use Rattle.table.specs.declared.kinds.UnknownKind.{UnknownKind}

-- the number of a kind
abbrev pub kind_number : Kind → ℕ
kind_number Timer = Numbers.timer
kind_number Subscription = Numbers.subscription
kind_number Service = Numbers.service
kind_number Client = Numbers.client

-- the kind of a number, where one has it
abbrev pub kind_numbered : ℕ → Result Kind UnknownKind
kind_numbered n =
    cond (eqb n Numbers.timer) (Ok Timer)
    (cond (eqb n Numbers.subscription) (Ok Subscription)
    (cond (eqb n Numbers.service) (Ok Service)
    (cond (eqb n Numbers.client) (Ok Client) (Err (record { 0 = n })))))
