-- `head` meets its contract: after some steps back the head of x is the head of the slot. Assumes nothing.
use mathlib.Core.Path.{◌≡◌}
use Prim.Native.Nat.{◌<◌, ◌-◌}
use Rattle.chains.specs.Chains.{head_from, head_of}
use Rattle.chains.proofs.head.Given as goal

abbrev pub invariant-loop-step : goal.invariant-loop-step
invariant-loop-step l = (l.x < 16) × (head_from l.fn.t (l.fn.t.count - l._step) l.x ≡ head_of l.fn.t l.fn.slot)
