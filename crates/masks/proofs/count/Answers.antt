-- The count of ones goes over the halves of the mask, count_of over its slots: the same number for a mask below 2 ^ 16.
use Rattle.masks.proofs.Counting.{ones_count}
use Rattle.masks.proofs.count.Goals as goal

pub returns : goal.returns
returns c = ones_count 16 c.args.mask c.ranges.mask.fits
