-- The clause is that of the function of the library.
use Rattle.cuorfelt_c.proofs.cuorfelt_normalise.Goals as goal

pub returns : goal.returns
returns c = c.cuorfelt_normalise.ensures
