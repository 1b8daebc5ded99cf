-- `analyse` meets its contract: the sheet is what is told of the result.
use mathlib.Core.Path.{ap, ◌∙◌}
use Rattle.sheet.specs.Parts.{told}
use Rattle.sheet.proofs.RefusalLaws.{told_lem}
use Rattle.sheet.proofs.analyse.Goals as goal

pub returns : goal.returns
returns c = (c.from.ensures ∙ ap told c.analysed.ensures.0 ∙ told_lem _ _, c.analysed.ensures.1)
