-- The three faults of a slot in turn.
use mathlib.Core.Path.{sym, ◌∙◌}
use Rattle.ranges.proofs.EveryLaws.{never_both}
use Rattle.faults.specs.Faults.{slot_wrong}
use Rattle.faults.proofs.Slot.fault.Goals as goal
use Rattle.faults.proofs.Slot.fault.Goals.{then-beyond_fault, else-beyond_fault}

pub returns-then-count_fault : goal.returns-then-count_fault
unfolding slot_wrong
returns-then-count_fault c =
    elim c.if-beyond_fault.branch [
      | then-beyond_fault w ↦ c.if-count_fault.true ∙ simp (sym c.beyond_fault.ensures ∙ w.if-beyond_fault.true)
      | else-beyond_fault w ↦ c.if-count_fault.true ∙ simp (sym c.beyond_fault.ensures ∙ w.if-beyond_fault.false, sym w.count_fault.ensures ∙ sym w.value-is ∙ c.if-count_fault.true)
    ]

pub returns-else-count_fault : goal.returns-else-count_fault
unfolding slot_wrong
returns-else-count_fault c =
    elim c.if-beyond_fault.branch [
      | then-beyond_fault w ↦ absurd (never_both _ (w.value-is ∙ w.if-beyond_fault.true) c.if-count_fault.false)
      | else-beyond_fault w ↦ simp (sym c.beyond_fault.ensures ∙ w.if-beyond_fault.false, sym w.count_fault.ensures ∙ sym w.value-is ∙ c.if-count_fault.false) c.cache_fault.ensures
    ]
