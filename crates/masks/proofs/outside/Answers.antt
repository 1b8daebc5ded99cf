-- 'and' with all but the other mask takes its slots away.
use Rattle.masks.proofs.Operators.{and_not}
use Rattle.masks.proofs.outside.Goals as goal

pub returns : goal.returns
returns c = and_not 16 c.args.mask c.args.other c.ranges.mask.fits c.ranges.other.fits
