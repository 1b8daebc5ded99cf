-- The values of a record and of a table, by slot (from 0); what a refusal is.
use Rattle.std.specs.Prelude.{true, false, Result, Ok, Err, List, [], ◌∷◌, ℕ, zero, suc, get_or, set, take, replicate, eqb}
use Rattle.numbers.specs.Numbers.{places, entry_places, default_horizon}
use Rattle.table.specs.declared.Callback.{Callback}
use Rattle.table.specs.declared.Refusal.{Refusal}
use Rattle.table.specs.declared.Table.{Table}

-- a refusal with its number and callback index
abbrev pub refuse : ℕ → ℕ → Refusal
refuse n i = record { number = n; index = i }

-- nothing is refused
abbrev pub accepted : Refusal
accepted = refuse 0 0

-- the first of two refusals, tested in this order
abbrev pub or_else : Refusal → Refusal → Refusal
or_else r s = elim (eqb r.number 0) [ true ↦ s | false ↦ r ]

-- x, unless something is refused
abbrev pub unless : {A : Type 0} → Refusal → A → Result A Refusal
unless r x = elim (eqb r.number 0) [ true ↦ Ok x | false ↦ Err r ]

-- a refusal that names the callback found, or what follows where none was
abbrev pub lowest_refused : ℕ → ℕ → Refusal → Refusal
lowest_refused n x r = elim x [ zero ↦ r | suc i ↦ refuse n (suc i) ]

-- a callback by its numbers: those of a byte, those in ticks, and the cost entries
abbrev pub callback_bytes : Callback → List ℕ
callback_bytes c = c.kind ∷ c.next ∷ c.used ∷ []

abbrev pub callback_ticks : Callback → List ℕ
callback_ticks c = c.period ∷ c.jitter ∷ c.distance ∷ []

abbrev pub callback_of : List ℕ → List ℕ → List ℕ → Callback
callback_of bytes ticks es =
    record {
      kind = get_or bytes 0 0;
      next = get_or bytes 1 0;
      used = get_or bytes 2 0;
      period = get_or ticks 0 0;
      jitter = get_or ticks 1 0;
      distance = get_or ticks 2 0;
      entries = es;
    }

-- a table by its numbers: those of a byte, those in ticks, and the callbacks
abbrev pub table_bytes : Table → List ℕ
table_bytes t = t.edition ∷ t.count ∷ []

abbrev pub table_ticks : Table → List ℕ
table_ticks t = t.budget ∷ t.period ∷ t.horizon ∷ t.delay ∷ []

abbrev pub table_of : List ℕ → List ℕ → List Callback → Table
table_of bytes ticks cs =
    record {
      edition = get_or bytes 0 0;
      count = get_or bytes 1 0;
      budget = get_or ticks 0 0;
      period = get_or ticks 1 0;
      horizon = get_or ticks 2 0;
      delay = get_or ticks 3 0;
      callbacks = cs;
    }

-- a table with other callbacks
abbrev pub with_callbacks : Table → List Callback → Table
with_callbacks t cs = table_of (table_bytes t) (table_ticks t) cs

-- a place beyond n
abbrev pub blank : Callback
blank = callback_of [] [] (replicate entry_places 0)

-- the callbacks that f gives to the first n slots, in sixteen places; the others are blank
unfoldable pub placed : (ℕ → Callback) → ℕ → List Callback
placed f zero = replicate places blank
placed f (suc n) = set (placed f n) n (f n)

-- a table with nothing in its header: the one that stands beside a refusal has blank places
abbrev pub headless : List Callback → Table
headless cs = table_of [] [] cs

abbrev pub blank_table : Table
blank_table = headless (replicate places blank)

-- what a read past the sixteenth place gives: no index leads there
abbrev pub vacant : Callback
vacant = callback_of [] [] []

-- the callback of a slot
abbrev pub callback_at : Table → ℕ → Callback
callback_at t i = get_or t.callbacks i vacant

abbrev pub kind_of : Table → ℕ → ℕ
kind_of t i = (callback_at t i).kind

-- the callback that a completion of slot i activates, as an index; 0 where its chain ends
abbrev pub next_of : Table → ℕ → ℕ
next_of t i = (callback_at t i).next

-- the entries E(1) to E(m)
abbrev pub entries_of : Callback → List ℕ
entries_of c = take c.used c.entries

-- the horizon that the search goes up to (document 01, 'The callback table', bytes 6-7): H, or the default where H is 0
unfoldable pub horizon_of : Table → ℕ
horizon_of t = elim (eqb t.horizon 0) [ true ↦ default_horizon | false ↦ t.horizon ]
