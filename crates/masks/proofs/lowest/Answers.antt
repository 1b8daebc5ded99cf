-- A mask of sixteen bits that is not 0 has a first slot, below sixteen.
use native.Mathlib.Omega.{arith}
use Rattle.masks.proofs.Search.{first_below}
use Rattle.masks.proofs.lowest.Goals as goal

pub overflow_cast-result : goal.overflow_cast-result
overflow_cast-result c = omega (arith, first_below c.args.mask c.ranges.mask.fits c.requires)

pub returns : goal.returns
returns c = omega (arith, first_below c.args.mask c.ranges.mask.fits c.requires)
