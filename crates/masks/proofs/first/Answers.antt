-- Trailing zeros go over the halves of the mask, first_from over its slots: the same number.
use Rattle.masks.specs.Parts.{first_of}
use Rattle.masks.proofs.Search.{trailing_first}
use Rattle.masks.proofs.first.Goals as goal

pub returns : goal.returns
unfolding first_of
returns c = trailing_first 16 c.args.mask
