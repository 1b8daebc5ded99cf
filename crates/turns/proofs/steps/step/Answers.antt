-- Nobody's turn, the last unit, or another one.
use Rattle.turns.proofs.TurnLaws.{step_nobody, step_last, step_more}
use Rattle.turns.proofs.steps.step.Goals as goal

pub returns-then-turn-eq0 : goal.returns-then-turn-eq0
returns-then-turn-eq0 c = step_nobody _ _ c.if-turn-eq0.true

pub returns-then-turn-eq1 : goal.returns-then-turn-eq1
returns-then-turn-eq1 c = step_last _ _ c.if-turn-eq0.false c.if-turn-eq1.true _ c.clear_slot.ensures

pub returns : goal.returns
returns c = step_more _ _ c.if-turn-eq0.false c.if-turn-eq1.false
