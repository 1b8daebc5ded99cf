-- The bits outside the heads, and the lowest of them.
use mathlib.Core.Path.{refl, ap, ◌∙◌}
use Rattle.masks.specs.Parts.{some_index}
use Rattle.table.proofs.MaskLaws.{foreign_law}
use Rattle.table.proofs.links.lowest_foreign.Goals as goal

pub returns : goal.returns
returns c =
    c.lowest_index.ensures ∙ ap some_index (foreign_law c.args.t c.args.mask _ _ _ c.ranges.mask.fits c.heads.ensures c.outside.ensures refl)
