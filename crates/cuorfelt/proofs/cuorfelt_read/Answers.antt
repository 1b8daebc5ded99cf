-- The reader's refusal.
use mathlib.Core.Path.{ap, ◌∙◌}
use Rattle.table.specs.Said.{refusal_in}
use Rattle.reader.proofs.Accepted.{said_by}
use Rattle.cuorfelt.proofs.cuorfelt_read.Goals as goal

pub returns : goal.returns
returns c = c.refusal_of.ensures ∙ ap refusal_in c.read.ensures.0 ∙ said_by _ _ _
