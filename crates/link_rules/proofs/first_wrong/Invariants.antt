-- `first_wrong` meets its contract: what is left of the search at i is the whole. Assumes nothing.
use mathlib.Core.Path.{◌≡◌}
use mathlib.Core.Bool.{Bool}
use Prim.Native.Nat.{ℕ}
use Rattle.masks.specs.Mask.{has}
use Rattle.ranges.specs.Least.{lowest}
use Rattle.ranges.proofs.LeastLaws.{rest_slots}
use Rattle.table.specs.declared.Table.{Table}
use Rattle.table.specs.Values.{callback_at}
use Rattle.link_rules.specs.LinkRules.{arrivals_fault}
use Rattle.link_rules.proofs.first_wrong.Given as goal

abbrev pub wrong : ℕ → Table → ℕ → Bool
wrong heads t i = arrivals_fault (has heads i) (callback_at t i)

abbrev pub invariant-loop-i : goal.invariant-loop-i
invariant-loop-i l = rest_slots (wrong l.heads l.t) l.t.count l.i ≡ lowest (wrong l.heads l.t) l.t.count
