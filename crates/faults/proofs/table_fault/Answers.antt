-- The rules of the reader.
use mathlib.Core.Path.{ap, ◌∙◌}
use Rattle.std.specs.Result.{is_err}
use Rattle.faults.proofs.ValueLaws.{table_judged}
use Rattle.faults.proofs.table_fault.Goals as goal

pub returns : goal.returns
returns c = c.is_err.ensures.value ∙ ap is_err c.check.ensures ∙ table_judged c.args.t
