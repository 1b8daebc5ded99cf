-- What a start and a tick on lent bytes give, and what the bytes hold then, for every input (document 01, 'Where each form goes', the edge
-- for C). The reader's edge gives read_fault, the normaliser's normalise_fault and normalised, and the analyser's sheet_of and row_of, as they stand.
use Rattle.std.specs.Prelude.{Bool, true, false, not, List, ℕ, eqb, length, Err}
use Rattle.table.specs.declared.Refusal.{Refusal}
use Rattle.table.specs.Values.{refuse}
use Rattle.answers.specs.declared.Reply.{Reply}
use Rattle.executor.specs.declared.Ticked.{Ticked}
use Rattle.numbers.specs.Numbers.{faulty_state}
use Rattle.answers.specs.Outcome.{reply_of}
use Rattle.executor.specs.Start.{start_of}
use Rattle.executor.specs.Tick.{tick_of}
use Rattle.layout.specs.Layout.{state_length, laid_out, unpacked, packed}

-- a start: row 29 for bytes of another length comes first, then the reader's rows
unfoldable pub start_fault : List ℕ → List ℕ → Refusal
start_fault b state = elim (eqb (length state) state_length) [ false ↦ refuse faulty_state 0 | true ↦ (start_of b).refusal ]

-- the lent bytes after a start: the fresh state, or as they were
unfoldable pub state_started : List ℕ → List ℕ → List ℕ
state_started b state = elim (eqb (start_fault b state).number 0) [ true ↦ packed (start_of b).machine | false ↦ state ]

-- the reply of a tick
abbrev pub reply_to : Ticked → Reply
reply_to x = reply_of x.outcome x.started x.polled x.gathered x.folded

-- where the bytes have another length, or are not laid out as a state: row 29
unfoldable pub no_state : Reply
no_state = reply_of (Err (refuse faulty_state 0)) false false 0 0

-- a flag as C has it: 0, or anything else
abbrev pub is_set : ℕ → Bool
is_set x = not (eqb x 0)

-- a tick on lent bytes: its reply
unfoldable pub tick_reply : List ℕ → ℕ → ℕ → ℕ → Reply
tick_reply state mask supplied cost =
    elim (laid_out state) [ false ↦ no_state | true ↦ reply_to (tick_of (unpacked state) mask (is_set supplied) cost) ]

-- the lent bytes after it: the next state, or as they were where it refuses
unfoldable pub state_ticked : List ℕ → ℕ → ℕ → ℕ → List ℕ
state_ticked state mask supplied cost =
    elim (eqb (tick_reply state mask supplied cost).number 0) [
      | true ↦ packed (tick_of (unpacked state) mask (is_set supplied) cost).machine
      | false ↦ state
    ]
