-- The table first; a tick of a state with a table that is right does the rest.
use mathlib.Core.Path.{ap, ◌∙◌}
use Rattle.executor.specs.Tick.{refused}
use Rattle.executor.proofs.FaultLaws.{faulty-table}
use Rattle.executor.proofs.TickLaws.{tick_faulty}
use Rattle.executor.proofs.Machine.tick.Goals as goal

pub returns-then-table_fault : goal.returns-then-table_fault
returns-then-table_fault c = c.refuse.ensures ∙ ap (refused c.args.self) c.at.ensures ∙ tick_faulty c.args.self _ _ _ (faulty-table c.args.self _ c.table_fault.ensures c.if-table_fault.true)
