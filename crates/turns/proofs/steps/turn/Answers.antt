-- What runs has the turn; where nothing does, whoever step 3 chooses.
use Rattle.turns.proofs.TurnLaws.{turn_running, turn_free}
use Rattle.turns.proofs.steps.turn.Goals as goal

pub returns-then-running-ne0 : goal.returns-then-running-ne0
returns-then-running-ne0 c = turn_running c.args.t c.args.waiting _ _ _ _ c.if-running-ne0.true

pub returns : goal.returns
returns c =
    turn_free c.args.t c.args.waiting _ _ _ _ c.if-running-ne0.false c.requires _ _ _ c.by_kind.ensures c.waiting_slots.ensures c.choose-x.ensures
