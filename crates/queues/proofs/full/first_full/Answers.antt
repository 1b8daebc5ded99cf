use mathlib.Core.Path.{ap, ◌∙◌}
use Rattle.masks.specs.Parts.{some_index}
use Rattle.queues.proofs.QueueLaws.{full-hit, full_miss, full_end}
use Rattle.queues.proofs.full.first_full.Goals as goal

pub returns-then-waiting-slot-ge-MOST_WAITING : goal.returns-then-waiting-slot-ge-MOST_WAITING
returns-then-waiting-slot-ge-MOST_WAITING c =
    let s = c.in-Some.ensures.steps in
    full-hit _ _ _ (s.0, s.1) c.if-waiting-slot-ge-MOST_WAITING.true ∙ ap some_index c.loop-slot.invariant.2

pub loop-slot-preserved : goal.loop-slot-preserved
loop-slot-preserved c =
    let s = c.in-Some.ensures.steps in
    (tt, tt, full_miss _ _ _ (s.0, s.1) _ c.if-waiting-slot-ge-MOST_WAITING.false s.2 ∙ c.loop-slot.invariant.2)

pub returns : goal.returns
returns c =
    let s = c.in-None.ensures.steps in
    full_end _ _ s.0 ∙ ap some_index c.loop-slot.invariant.2
