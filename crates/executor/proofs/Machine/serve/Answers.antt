-- The turn, and what step 4 leaves of it.
use mathlib.Core.Path.{ap, ◌∙◌, sym}
use Rattle.std.specs.Prelude.{Ok}
use Rattle.executor.proofs.ValidLaws.{table_sound}
use Rattle.executor.proofs.Cases.{completes, has_units, finisher}
use Rattle.executor.proofs.EffectLaws.{served_law}
use Rattle.turns.specs.declared.Step.{Step}
use Rattle.answers.specs.Outcome.{finished_of}
use Rattle.executor.proofs.Machine.serve.Goals as goal

pub turn-x-requires : goal.turn-x-requires
turn-x-requires c = (table_sound _ c.requires.valid.table).few

pub instance-requires : goal.instance-requires
instance-requires c i e = (let a = completes c.args.self _ c.requires _ c.turn-x.ensures i e in (a.inside, a.counted))

pub step-s-requires : goal.step-s-requires
step-s-requires c = has_units c.args.self _ c.requires _ c.turn-x.ensures

pub after-requires : goal.after-requires
after-requires c = (
  c.requires.early,
  λ i e. completes c.args.self _ c.requires _ c.turn-x.ensures i (finisher _ _ i (ap (λ (s : Step). finished_of (Ok s.answer)) (sym c.step-s.ensures) ∙ e)),
)

pub returns : goal.returns
returns c = c.after.ensures ∙ served_law c.args.self _ _ _ _ _ c.turn-x.ensures c.instance.ensures c.step-s.ensures
