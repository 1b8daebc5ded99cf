-- The bit is left by the mask 2 ^ slot just where the slot is there.
use Rattle.masks.proofs.Operators.{test_law}
use Rattle.masks.proofs.test_slot.Goals as goal

pub returns : goal.returns
returns c = test_law c.args.mask c.args.slot c.requires
