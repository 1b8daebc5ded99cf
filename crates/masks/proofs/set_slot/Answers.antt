-- 'or' with the mask 2 ^ slot adds it just where the slot is not there.
use Rattle.masks.proofs.Operators.{set_law}
use Rattle.masks.proofs.set_slot.Goals as goal

pub returns : goal.returns
returns c = set_law c.args.mask c.args.slot c.requires
