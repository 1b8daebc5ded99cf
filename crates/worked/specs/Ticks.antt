-- A machine started from the bytes of a table, and the numbers that its ticks say.
use Rattle.std.specs.Prelude.{true, List, [], ◌∷◌, ◌++◌, ℕ}
use Rattle.table.specs.declared.Table.{Table}
use Rattle.reader.specs.Written.{written}
use Rattle.executor.specs.declared.Machine.{Machine}
use Rattle.executor.specs.declared.Ticked.{Ticked}
use Rattle.answers.specs.Outcome.{number_of, callback_of, instance_of, flag}
use Rattle.executor.specs.Tick.{tick_of}
use Rattle.executor.specs.Start.{start_of}

-- what one tick says, six numbers: the answer (1 no supply, 2 idle, 3 ran, 4 finished; 0 refused), its callback and instance,
-- flags for a start and for a polling point, and how many that one took
abbrev pub says : Ticked → List ℕ
says x = number_of x.outcome ∷ callback_of x.outcome ∷ instance_of x.outcome ∷ flag x.started ∷ flag x.polled ∷ x.gathered ∷ []

-- what a machine says in supplied ticks of one cost, a mask for each
unfoldable pub says_over : Machine → ℕ → List ℕ → List ℕ
says_over m cost [] = []
says_over m cost (mask ∷ masks) = says (tick_of m mask true cost) ++ says_over (tick_of m mask true cost).machine cost masks

-- the same from the start of a table
abbrev pub run : Table → ℕ → List ℕ → List ℕ
run t cost masks = says_over (start_of (written t)).machine cost masks
