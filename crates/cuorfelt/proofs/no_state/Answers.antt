-- 29, and nothing beside it.
use mathlib.Core.Path.{ap, ◌∙◌}
use mathlib.Core.Bool.{false}
use Rattle.std.specs.Prelude.{Err}
use Rattle.table.specs.declared.Refusal.{Refusal}
use Rattle.answers.specs.Outcome.{reply_of}
use Rattle.cuorfelt.specs.Edge.{no_state}
use Rattle.cuorfelt.proofs.no_state.Goals as goal

pub returns : goal.returns
unfolding no_state
returns c = c.new.ensures ∙ ap (λ (r : Refusal). reply_of (Err r) false false 0 0) c.at.ensures
