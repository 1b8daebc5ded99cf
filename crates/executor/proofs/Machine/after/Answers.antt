-- The counts of whoever finishes, and what step 4 leaves.
use mathlib.Core.Path.{sym, ◌∙◌}
use Rattle.executor.proofs.EffectLaws.{after_law}
use Rattle.executor.proofs.Machine.after.Goals as goal

pub completed-machine-requires : goal.completed-machine-requires
completed-machine-requires c i e = c.requires.1 i (sym c.finished.ensures ∙ e)

pub returns : goal.returns
returns c = after_law c.args.self _ c.args.x c.args.s _ _ c.finished.ensures c.completed-machine.ensures
