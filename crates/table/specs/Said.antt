-- The refusal in a result, as C has it.
use Rattle.std.specs.Prelude.{Result, Ok, Err}
use Rattle.table.specs.declared.Refusal.{Refusal}
use Rattle.table.specs.Values.{accepted}

-- number 0 where nothing is refused
abbrev pub refusal_in : {A : Type 0} → Result A Refusal → Refusal
refusal_in (Ok x) = accepted
refusal_in (Err r) = r
