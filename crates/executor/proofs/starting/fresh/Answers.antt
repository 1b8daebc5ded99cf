-- Sixteen zeros each.
use mathlib.Core.Path.{refl}
use Rattle.executor.specs.State.{fresh}
use Rattle.executor.proofs.starting.fresh.Goals as goal

pub returns : goal.returns
unfolding fresh
returns c = refl
