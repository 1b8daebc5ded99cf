-- Number and values of each outcome of a tick: what the four answers and a refusal say, and the reply that a host gets of it.
use Rattle.std.specs.Prelude.{Bool, true, false, ℕ, Result, Ok, Err}
use Rattle.table.specs.declared.Refusal.{Refusal}
use Rattle.table.specs.Values.{accepted}
use Rattle.answers.specs.declared.Answer.{Answer}
use Rattle.answers.specs.declared.Answer.TheVariants.{NoSupply, Idle, Ran, Finished}
use Rattle.answers.specs.declared.Reply.{Reply}

-- a tick is answered, or refused
abbrev pub Outcome : Type 0
Outcome = Result Answer Refusal

-- 0 refused, 1 no supply, 2 idle, 3 ran, 4 finished
abbrev pub number_of : Outcome → ℕ
number_of (Err r) = 0
number_of (Ok NoSupply) = 1
number_of (Ok Idle) = 2
number_of (Ok (Ran i k)) = 3
number_of (Ok (Finished i k)) = 4

-- the callback named, an index from 1; 0 where none is
abbrev pub callback_of : Outcome → ℕ
callback_of (Err r) = 0
callback_of (Ok NoSupply) = 0
callback_of (Ok Idle) = 0
callback_of (Ok (Ran i k)) = i
callback_of (Ok (Finished i k)) = i

-- the instance named, from 1; 0 where none is
abbrev pub instance_of : Outcome → ℕ
instance_of (Err r) = 0
instance_of (Ok NoSupply) = 0
instance_of (Ok Idle) = 0
instance_of (Ok (Ran i k)) = k
instance_of (Ok (Finished i k)) = k

-- the callback whose instance finished in this tick, an index; 0 where none did
abbrev pub finished_of : Outcome → ℕ
finished_of (Err r) = 0
finished_of (Ok NoSupply) = 0
finished_of (Ok Idle) = 0
finished_of (Ok (Ran i k)) = 0
finished_of (Ok (Finished i k)) = i

-- the refusal, `accepted` where the tick is answered
abbrev pub refusal_of : Outcome → Refusal
refusal_of (Err r) = r
refusal_of (Ok a) = accepted

-- 0 or 1
abbrev pub flag : Bool → ℕ
flag true = 1
flag false = 0

-- the reply, with what stands beside the outcome: whether one started, whether a poll fell in the tick, how many it took, and whose beats were folded
unfoldable pub reply_of : Outcome → Bool → Bool → ℕ → ℕ → Reply
reply_of o started polled gathered folded =
    record {
      instance = instance_of o;
      number = (refusal_of o).number;
      index = (refusal_of o).index;
      answer = number_of o;
      callback = callback_of o;
      started = flag started;
      polled = flag polled;
      gathered = gathered;
      folded = folded;
    }
