-- Demand 3, one claim over a whole history, for hosts that lend the state's bytes (document 01, 'A history', where the state is handed on in
-- them). The same words and the same promise as by value (crate guarantee), read from the replies of cuorfelt_start and cuorfelt_tick:
-- `state_started`, `tick_reply` and `state_ticked`, the definitions that their contracts name, along the list in `replies_in`.
use Rattle.std.specs.Prelude.{◌≡◌, List, [], ◌∷◌, ℕ, ◌≤◌, ◌<◌, length, get_or}
use Rattle.reader.specs.Format.{table_at}
use Rattle.numbers.specs.Numbers.{most_ticks}
use Rattle.sheet.specs.Sheet.{analysis_fault, row_of}
use Rattle.answers.specs.declared.Reply.{Reply}
use Rattle.guarantee.specs.History.{Tick, Result}
use Rattle.guarantee.specs.Within.{WithinCurves}
use Rattle.guarantee.specs.Claim.{Guaranteed}
use Rattle.layout.specs.Layout.{state_length}
use Rattle.cuorfelt.specs.Edge.{is_set, state_started}
use Rattle.cuorfelt.specs.Lent.{Call, replies_in, outcome_in}

-- a host's call as a tick of a history
abbrev pub tick_of_call : Call → Tick
tick_of_call x = record { mask = x.mask; supplied = is_set x.supplied; cost = x.cost }

unfoldable pub ticks : List Call → List Tick
ticks [] = []
ticks (x ∷ h) = tick_of_call x ∷ ticks h

-- a reply as a tick's result
abbrev pub result_in : Reply → Result
result_in r = record { outcome = outcome_in r; started = is_set r.started; polled = is_set r.polled; gathered = r.gathered; folded = r.folded }

unfoldable pub results_in : List Reply → List Result
results_in [] = []
results_in (r ∷ rs) = result_in r ∷ results_in rs

-- the claim, for a table's bytes b, a row, lent bytes of a state's length, and the calls of a host
abbrev pub LentGuarantee : Type 0
LentGuarantee = (b row state : List ℕ) (h : List Call)
    → ((i : ℕ) → get_or b i 0 < 256)
    → length state ≡ state_length
    → (analysis_fault b (length row)).number ≡ 0
    → length (ticks h) ≤ most_ticks
    → WithinCurves (table_at b) (ticks h) (results_in (replies_in (state_started b state) h))
    → Guaranteed (table_at b) (row_of b row) (ticks h) (results_in (replies_in (state_started b state) h))
