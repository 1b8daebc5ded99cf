-- The clause is that of the function of the library.
use Rattle.report_c.proofs.cuorfelt_bounds.Goals as goal

pub returns : goal.returns
returns c = c.cuorfelt_bounds.ensures
