-- A machine from a table's bytes (document 01, 'One tick of the machine', the start).
use Rattle.std.specs.Prelude.{List, ℕ}
use Rattle.reader.specs.Format.{read_of}
use Rattle.table.specs.declared.Refusal.{Refusal}
use Rattle.executor.specs.declared.Machine.{Machine}
use Rattle.executor.specs.State.{fresh}

-- a start: the fresh state, or the refusal beside the state that is zero throughout
pub record Started : Type 0 where
  pub refusal : Refusal
  pub machine : Machine

-- the fresh state of the table read, and the reader's refusal; the table of a refused reading is blank, so that state is zero throughout
unfoldable pub start_of : List ℕ → Started
start_of b = record { refusal = (read_of b).refusal; machine = fresh (read_of b).table }
