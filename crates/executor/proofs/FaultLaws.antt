-- The faults of row 29 as the functions of a tick find them. Assumes nothing.
-- faulty-table, faulty_by, right_by: the table, and the state around it.
use mathlib.Core.Path.{◌≡◌, sym, ◌∙◌}
use mathlib.Core.Bool.{Bool, true, false}
use Rattle.faults.specs.Faults.{table_fault}
use Rattle.executor.specs.declared.Machine.{Machine}
use Rattle.executor.specs.State.{faulty, state_fault}

module _ (m : Machine) (b : Bool) where
  pub faulty-table : b ≡ table_fault m.table → b ≡ true → true ≡ faulty m
  unfolding faulty
  faulty-table e f = rw (← e, f)

  -- of a state whose table is known to be right
  pub faulty_by : table_fault m.table ≡ false → b ≡ state_fault m → b ≡ faulty m
  unfolding faulty
  faulty_by right e = e ∙ sym (rw right)

  pub right_by : table_fault m.table ≡ false → b ≡ state_fault m → b ≡ false → faulty m ≡ false
  right_by right e f = sym (faulty_by right e) ∙ f
