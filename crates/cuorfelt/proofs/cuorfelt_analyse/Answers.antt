-- The analyser's sheet, and the row that it leaves.
use Rattle.cuorfelt.proofs.cuorfelt_analyse.Goals as goal

pub returns : goal.returns
returns c = c.analyse.ensures
