-- `foremost` meets its contract: kind by kind. Assumes nothing.
use mathlib.Core.Path.{ap₂, ◌∙◌}
use Rattle.std.specs.Option.{option_or}
use Rattle.priority.proofs.PriorityLaws.{foremost_or}
use Rattle.priority.proofs.foremost.Goals as goal

pub returns : goal.returns
returns c =
    c.or-3.ensures
    ∙ ap₂ option_or
    (c.or-2.ensures
    ∙ ap₂ option_or (c.or.ensures ∙ ap₂ option_or c.lowest_index.ensures c.lowest_index-2.ensures) c.lowest_index-3.ensures)
    c.lowest_index-4.ensures
    ∙ foremost_or c.args.k c.args.mask
