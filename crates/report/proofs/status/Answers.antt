-- The status goes by what was written and by the sheet's refusal.
use Rattle.report.specs.Status.{status_of}
use Rattle.report.proofs.status.Goals as goal

pub returns : goal.returns
unfolding status_of
returns c = c.status_by.ensures
