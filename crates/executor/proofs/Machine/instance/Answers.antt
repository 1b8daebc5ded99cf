-- An index from 1 is that of a slot.
use Prim.Native.Nat.{◌-◌}
use native.Mathlib.Omega.{arith}
use Rattle.executor.proofs.EffectLaws.{instance_none, instance_some}
use Rattle.executor.proofs.Machine.instance.Goals as goal

pub returns-then-index-eq0 : goal.returns-then-index-eq0
returns-then-index-eq0 c = instance_none c.args.self _ c.if-index-eq0.true

pub bounds-self-index : goal.bounds-self-index
bounds-self-index c = (c.requires (c.args.index - 1) (omega arith)).0

pub returns : goal.returns
returns c = instance_some c.args.self _ c.if-index-eq0.false
