-- The normaliser's refusal.
use mathlib.Core.Path.{ap, ◌∙◌}
use Rattle.table.specs.Said.{refusal_in}
use Rattle.normaliser.proofs.NormaliserLaws.{said_normalise}
use Rattle.cuorfelt.proofs.cuorfelt_normalise.Goals as goal

pub returns : goal.returns
returns c = (c.refusal_of.ensures ∙ ap refusal_in c.normalise.ensures.0 ∙ said_normalise _, c.normalise.ensures.1)
