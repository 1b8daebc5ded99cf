-- A refused start gives the fresh state of a table without callbacks, and every tick on it is refused with 29; an accepted table
-- has no fault (read_faultless). start_err, start_ok: what the code gives. Assumes nothing.
use mathlib.Core.Path.{◌≡◌, refl, sym, ap, ◌∙◌}
use mathlib.Core.Logic.{◌≢◌}
use mathlib.Core.Bool.{Bool, true, false, not}
use mathlib.Core.List.{List}
use Prim.Native.Nat.{ℕ}
use lib.Dec.{eqb}
use Rattle.table.specs.declared.Refusal.{Refusal}
use Rattle.std.specs.Prelude.{Ok, Err}
use Rattle.table.specs.declared.Table.{Table}
use Rattle.table.specs.Values.{refuse, unless, blank_table}
use Rattle.table.proofs.RefusalLaws.{passed}
use Rattle.table.proofs.RefusalLaws.{refused as unless_refused}
use Rattle.rules.specs.Rules.{head_fault, fault_of}
use Rattle.reader.specs.Format.{Reading, table_at, read_fault}
use Rattle.reader.proofs.Accepted.{reading_is, read_refused, read_table, read_accepted}
use Rattle.executor.specs.declared.Machine.{Machine}
use Rattle.numbers.specs.Numbers.{faulty_state}
use Rattle.executor.specs.State.{fresh, faulty}
use Rattle.faults.specs.Faults.{table_fault}
use Rattle.executor.specs.Tick.{refused, tick_of}
use Rattle.executor.specs.Start.{start_of}
use Rattle.executor.proofs.TickLaws.{tick_faulty}

-- the state beside a refusal has edition 0
pub zero_faulty : faulty (fresh blank_table) ≡ true
unfolding faulty table_fault fresh head_fault fault_of
zero_faulty = refl

pub zero_ticked : (mask : ℕ) (supplied : Bool) (cost : ℕ)
    → tick_of (fresh blank_table) mask supplied cost ≡ refused (fresh blank_table) (refuse faulty_state 0)
zero_ticked mask supplied cost = sym (tick_faulty (fresh blank_table) mask supplied cost (sym zero_faulty))

module _ (b : List ℕ) (h : (read_fault b).number ≢ 0) where
  pub refused_start : (start_of b).machine ≡ fresh blank_table
  unfolding start_of
  refused_start = ap (λ (r : Reading). fresh r.table) (read_refused b h)

  pub refused-ticked : (mask : ℕ) (supplied : Bool) (cost : ℕ)
      → tick_of (start_of b).machine mask supplied cost ≡ refused (fresh blank_table) (refuse faulty_state 0)
  refused-ticked mask supplied cost = ap (λ (m : Machine). tick_of m mask supplied cost) refused_start ∙ zero_ticked mask supplied cost

-- the table of accepted bytes has no fault
pub read_faultless : (b : List ℕ) → (read_fault b).number ≡ 0 → table_fault (table_at b) ≡ false
unfolding table_fault
read_faultless b e = ap (λ (r : Refusal). not (eqb r.number 0)) (read_accepted b e)

-- as the code gives it
module _ (b : List ℕ) where
  pub start_err : (read_fault b).number ≢ 0 → unless (start_of b).refusal (start_of b).machine ≡ Err (read_fault b)
  unfolding start_of
  start_err h = ap (λ (r : Refusal). unless r (start_of b).machine) (reading_is b) ∙ unless_refused (read_fault b) (start_of b).machine h

  pub start_ok : (read_fault b).number ≡ 0 → unless (start_of b).refusal (start_of b).machine ≡ Ok (fresh (table_at b))
  unfolding start_of
  start_ok e =
      ap (λ (r : Refusal). unless r (start_of b).machine) (reading_is b)
      ∙ passed (read_fault b) (start_of b).machine e
      ∙ ap (λ (t : Table). Ok (fresh t)) (read_table b e)
