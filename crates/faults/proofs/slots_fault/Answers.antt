use mathlib.Core.Path.{refl, sym, ◌∙◌}
use Rattle.ranges.specs.Every.{some}
use Rattle.ranges.proofs.EveryLaws.{some-hit, some_more}
use Rattle.numbers.specs.Numbers.{places}
use Rattle.faults.specs.Faults.{slot_fault}
use Rattle.faults.proofs.ValueLaws.{slot_is}
use Rattle.faults.proofs.slots_fault.Goals as goal

pub loop-i-init : goal.loop-i-init
unfolding some
loop-i-init c = refl

pub returns-then-fault : goal.returns-then-fault
returns-then-fault c =
    let a = c.args in
    let found = slot_is a.t _ _ _ a.waiting a.finished _ _ _ _ c.test_slot.ensures c.polled.ensures c.fault.ensures in
    sym (some-hit (slot_fault a.t a.cache a.running a.waiting a.finished a.clock) places _ c.loop-i-test.true (found ∙ c.if-fault.true))

pub loop-i-preserved : goal.loop-i-preserved
loop-i-preserved c =
    let a = c.args in
    let found = slot_is a.t _ _ _ a.waiting a.finished _ _ _ _ c.test_slot.ensures c.polled.ensures c.fault.ensures in
    some_more (slot_fault a.t a.cache a.running a.waiting a.finished a.clock) _ c.loop-i.invariant (found ∙ c.if-fault.false)
