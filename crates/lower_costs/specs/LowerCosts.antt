-- Two tables that differ in their costs alone, those of the second nowhere above those of the first.
use Rattle.std.specs.Prelude.{◌≡◌, ℕ, ◌≤◌, ◌<◌}
use Rattle.table.specs.declared.Table.{Table}
use Rattle.table.specs.Values.{table_ticks, callback_ticks, callback_at, kind_of, next_of}
use Rattle.windows.specs.Bounds.{cost_of}

-- u is the table t with costs that are nowhere above: all else is the same
pub record LowerCosts (t u : Table) : Type 0 where
  pub edition : u.edition ≡ t.edition
  pub count : u.count ≡ t.count
  pub ticks : table_ticks u ≡ table_ticks t
  pub kinds : (i : ℕ) → kind_of u i ≡ kind_of t i
  pub nexts : (i : ℕ) → next_of u i ≡ next_of t i
  pub arrivals : (i : ℕ) → callback_ticks (callback_at u i) ≡ callback_ticks (callback_at t i)
  pub costs : (i n : ℕ) → i < t.count → cost_of u i n ≤ cost_of t i n
