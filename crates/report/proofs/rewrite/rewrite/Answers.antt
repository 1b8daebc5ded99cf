-- What is handed back is the normaliser's refusal, and the bytes are as it left them.
use mathlib.Core.Path.{ap, ◌∙◌}
use Rattle.table.specs.Said.{refusal_in}
use Rattle.normaliser.proofs.NormaliserLaws.{said_normalise}
use Rattle.report.proofs.rewrite.rewrite.Goals as goal

pub returns-in-Ok : goal.returns-in-Ok
returns-in-Ok c =
    (c.refusal_of-refusal.ensures ∙ ap refusal_in c.normalise-normalised.ensures.0 ∙ said_normalise _, c.normalise-normalised.ensures.1)
