-- 'and' with all but the mask 2 ^ slot takes it away just where the slot is there.
use Rattle.masks.proofs.Operators.{clear_law}
use Rattle.masks.proofs.clear_slot.Goals as goal

pub returns : goal.returns
returns c = clear_law c.args.mask c.args.slot c.requires c.ranges.mask.fits
