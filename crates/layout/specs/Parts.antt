-- The state that bytes hold, if they are laid out as one.
use Rattle.std.specs.Prelude.{true, false, List, ℕ, Option, Some, None}
use Rattle.executor.specs.declared.Machine.{Machine}
use Rattle.layout.specs.Layout.{laid_out, unpacked}

unfoldable pub machine_in : List ℕ → Option Machine
machine_in b = elim (laid_out b) [ true ↦ Some (unpacked b) | false ↦ None ]
