-- The clause is that of the function of the library.
use Rattle.report_c.proofs.cuorfelt_normalise_program.Goals as goal

pub returns : goal.returns
returns c = c.cuorfelt_normalise_program.ensures
