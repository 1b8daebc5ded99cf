-- A history whose state is handed on in the lent bytes (document 01, 'A history'), and the outcome that a reply's numbers stand for.
use Rattle.std.specs.Prelude.{cond, List, [], ◌∷◌, ℕ, eqb, Err, Ok}
use Rattle.table.specs.Values.{refuse}
use Rattle.answers.specs.declared.Answer.TheVariants.{NoSupply, Idle, Ran, Finished}
use Rattle.answers.specs.declared.Reply.{Reply}
use Rattle.answers.specs.Outcome.{Outcome}
use Rattle.cuorfelt.specs.Edge.{tick_reply, state_ticked}

-- a tick of a history, as a host passes it
pub record Call : Type 0 where
  pub mask : ℕ
  pub supplied : ℕ
  pub cost : ℕ

-- the replies, each tick on the bytes that the one before it left
unfoldable pub replies_in : List ℕ → List Call → List Reply
replies_in state [] = []
replies_in state (x ∷ h) =
    tick_reply state x.mask x.supplied x.cost ∷ replies_in (state_ticked state x.mask x.supplied x.cost) h

-- the outcome that a reply's numbers stand for
unfoldable pub outcome_in : Reply → Outcome
outcome_in r =
    cond (eqb r.answer 1) (Ok NoSupply)
    (cond (eqb r.answer 2) (Ok Idle)
    (cond (eqb r.answer 3) (Ok (Ran r.callback r.instance))
    (cond (eqb r.answer 4) (Ok (Finished r.callback r.instance))
    (Err (refuse r.number r.index)))))
