-- Those folded, the arrivals, and then what the supply allows.
use mathlib.Core.Path.{◌∙◌, sym, subst}
use Rattle.numbers.specs.Numbers.{most_waiting}
use Rattle.executor.specs.declared.Machine.{Machine}
use Rattle.executor.specs.Parts.{Admissible}
use Rattle.executor.proofs.ValidLaws.{admissible_arrived}
use Rattle.executor.proofs.EffectLaws.{effect_supplied, effect-unsupplied}
use Rattle.executor.proofs.Machine.effect.Goals as goal
use Rattle.executor.proofs.Machine.effect.Goals.{After-arrive-m}

-- the state after the arrivals
arrived : (c : After-arrive-m) → Admissible 256 c.arrive-m.result c.args.cost
arrived c =
    subst (λ (m : Machine). Admissible 256 m c.args.cost) (sym c.arrive-m.ensures) (admissible_arrived c.args.self _ _ most_waiting c.requires.0 c.requires.1)

pub serve-requires : goal.serve-requires
serve-requires c = arrived c.before

pub returns-then-supplied : goal.returns-then-supplied
returns-then-supplied c = c.serve.ensures ∙ effect_supplied c.args.self _ _ _ _ c.folded-folded.ensures _ c.arrive-m.ensures c.if-supplied.true

pub returns : goal.returns
returns c = c.unsupplied.ensures ∙ effect-unsupplied c.args.self _ _ _ _ c.folded-folded.ensures _ c.arrive-m.ensures c.if-supplied.false
