-- What an inner function computes: E(1) of a record.
use Rattle.std.specs.Prelude.{ℕ}
use Rattle.curves.specs.Cost.{cost}
use Rattle.table.specs.declared.Callback.{Callback}
use Rattle.table.specs.Values.{entries_of}

unfoldable pub single_of : Callback → ℕ
single_of c = cost (entries_of c) 1
