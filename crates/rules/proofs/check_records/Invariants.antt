-- `check_records` meets its contract: what is left of the records at i is the whole. Assumes nothing.
use mathlib.Core.Path.{◌≡◌}
use Prim.Native.Nat.{◌-◌}
use Rattle.rules.specs.Rules.{records_by}
use Rattle.rules.proofs.check_records.Given as goal

abbrev pub invariant-loop-i : goal.invariant-loop-i
invariant-loop-i l = records_by l.sums l.spares l.t (l.t.count - l.i) l.i ≡ records_by l.sums l.spares l.t l.t.count 0
