-- What is handed back, and the buffer, are what the writer says of the numbers as they were given, each in its place.
use Rattle.cuorfelt.proofs.cuorfelt_write.Goals as goal

pub returns : goal.returns
returns c = c.write.ensures
