-- `marked` meets its contract: what is left of the walk gives what the whole gives. Assumes nothing.
use mathlib.Core.Path.{◌≡◌}
use Prim.Native.Nat.{◌-◌, ◌≤◌}
use Rattle.table.specs.Values.{next_of}
use Rattle.link_rules.specs.Parts.{marks}
use Rattle.link_rules.proofs.marked.Given as goal

abbrev pub invariant-loop : goal.invariant-loop
invariant-loop l = (l.at ≤ l.t.count) × (marks (next_of l.t) (l.t.count - l.counter) l.at l.met ≡ marks (next_of l.t) l.t.count l.x l.mask)
