-- The effect of one tick, steps 1 to 4 of document 01, over unbounded counts; the refusals stand in front of it (Tick).
use Rattle.std.specs.Prelude.{Bool, true, false, List, ℕ, zero, suc, ◌+◌, get_or, Ok}
use Rattle.table.specs.declared.Table.{Table}
use Rattle.table.specs.Values.{next_of}
use Rattle.answers.specs.declared.Answer.TheVariants.{NoSupply}
use Rattle.answers.specs.Outcome.{Outcome, finished_of}
use Rattle.queues.specs.Queues.{arrived, counted, completed}
use Rattle.folding.specs.Folding.{folded_of, kept_of}
use Rattle.turns.specs.declared.Step.{Step}
use Rattle.turns.specs.declared.Turn.{Turn}
use Rattle.turns.specs.Turns.{turn_of, step_of}
use Rattle.executor.specs.declared.Machine.{Machine}
use Rattle.executor.specs.declared.Ticked.{Ticked}
use Rattle.executor.specs.State.{with_counts}

-- the timers of a mask whose beat is folded (document 02, U6)
abbrev pub folded_in : Machine → ℕ → ℕ
folded_in m mask = folded_of m.table m.waiting m.running mask

-- and what of the mask is kept
abbrev pub kept_in : Machine → ℕ → ℕ
kept_in m mask = kept_of mask (folded_in m mask)

-- step 1: the state with the arrivals of a mask that are kept
abbrev pub arrive : Machine → ℕ → Machine
arrive m mask = with_counts m (arrived (kept_in m mask) m.waiting) m.finished

-- the state after a tick: one tick more is taken
abbrev pub after : Machine → List ℕ → List ℕ → ℕ → ℕ → ℕ → Machine
after m ws fs c r u =
    record { table = m.table; waiting = ws; finished = fs; cache = c; running = r; units = u; clock = m.clock + 1 }

-- step 2: nothing else happens; those folded are told
unfoldable pub unsupplied : Machine → ℕ → Ticked
unsupplied m folded =
    record {
      machine = after m m.waiting m.finished m.cache m.running m.units;
      outcome = Ok NoSupply;
      started = false;
      polled = false;
      gathered = 0;
      folded = folded;
    }

-- step 3: whose turn the tick is
abbrev pub turn_in : Machine → ℕ → Turn
turn_in m cost = turn_of m.table m.waiting m.cache m.running m.units cost

-- the instance of the callback of an index that is to run, counted from 1; 0 where the index is
unfoldable pub instance_at : Machine → ℕ → ℕ
instance_at m zero = 0
instance_at m (suc i) = get_or m.finished i 0 + 1

-- step 4, the waiting counts: the callback of an index leaves them, and its next comes; 0 is nobody's
unfoldable pub left : Table → ℕ → List ℕ → List ℕ
left t zero ws = ws
left t (suc i) ws = completed i (next_of t i) ws

-- what a tick gives after step 4, with those folded
abbrev pub ticked : Machine → ℕ → Turn → Step → Ticked
ticked m folded x s =
    let o : Outcome = Ok s.answer in
    record {
      machine = after m (left m.table (finished_of o) m.waiting) (counted (finished_of o) m.finished) s.cache s.running s.units;
      outcome = o;
      started = x.started;
      polled = x.polled;
      gathered = x.gathered;
      folded = folded;
    }

-- steps 3 and 4
unfoldable pub served : Machine → ℕ → ℕ → Ticked
served m folded cost = (let x : Turn = turn_in m cost in ticked m folded x (step_of x (instance_at m x.chosen)))

-- the whole tick
unfoldable pub effect : Machine → ℕ → Bool → ℕ → Ticked
effect m mask supplied cost =
    elim supplied [ true ↦ served (arrive m mask) (folded_in m mask) cost | false ↦ unsupplied (arrive m mask) (folded_in m mask) ]
