-- From a fresh state on, whatever the ticks, within the curves or not: at most one instance of a timer waits that has not started, so that of its
-- beats nothing piles up (document 02, U6). Assumes nothing.
use mathlib.Core.Path.{◌≡◌}
use mathlib.Core.Bool.{false}
use mathlib.Core.List.{List, [], ◌∷◌}
use Prim.Native.Nat.{ℕ, zero, suc}
use Rattle.table.specs.declared.Table.{Table}
use Rattle.faults.specs.Faults.{table_fault}
use Rattle.executor.specs.declared.Machine.{Machine}
use Rattle.executor.specs.State.{fresh}
use Rattle.executor.specs.Parts.{Valid}
use Rattle.executor.proofs.ValidLaws.{fresh_valid}
use Rattle.executor.proofs.FoldedLaws.{Prompt, fresh_prompt, tick_prompt}
use Rattle.guarantee.specs.History.{Tick, ticked}
use Rattle.guarantee.proofs.Ticks.{before}

stays : (m : Machine) → Valid m → Prompt m → (h : List Tick) (t : ℕ) → Prompt (before ticked m h t)
unfolding before
stays m ok p h zero = p
stays m ok p [] (suc t) = p
stays m ok p (x ∷ h) (suc t) = (let a = tick_prompt m ok p x.mask x.supplied x.cost in stays (ticked m x).machine a.0 a.1 h t)

-- the state before tick t
pub prompt : (tb : Table) → table_fault tb ≡ false → (h : List Tick) (t : ℕ) → Prompt (before ticked (fresh tb) h t)
prompt tb right h t = stays (fresh tb) (fresh_valid tb right) (fresh_prompt tb right) h t
