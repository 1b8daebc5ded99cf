-- Each test of the definition is one of the code.
use mathlib.Core.Path.{◌∙◌}
use mathlib.Core.Logic.{inl, inr}
use borrow.Author.Tests.{lt-ltb, le-ltb}
use Rattle.ranges.proofs.EveryLaws.{never_both}
use Rattle.faults.specs.Faults.{beyond_wrong}
use Rattle.faults.proofs.Slot.beyond_fault.Goals as goal
use Rattle.faults.proofs.Slot.beyond_fault.Goals.{then-self-2, else-self-2}

pub returns-then-self-gt0 : goal.returns-then-self-gt0
unfolding beyond_wrong
returns-then-self-gt0 c =
    elim c.if-self-2.branch [
      | then-self-2 w ↦ w.t-4-is ∙ simp (c.if-self.true, w.if-self-2.true)
      | else-self-2 w ↦ w.t-4-is ∙ elim c.if-self-gt0.either [
        | inl e ↦ absurd (never_both _ e w.if-self-2.false)
        | inr h ↦ simp (c.if-self.true, h.0, lt-ltb _ _ h.1)
      ]
    ]

pub returns-else-self-gt0 : goal.returns-else-self-gt0
unfolding beyond_wrong
returns-else-self-gt0 c = simp (c.if-self.true, c.if-self-gt0.false.0, le-ltb _ _ c.if-self-gt0.false.1)

pub returns-else-self : goal.returns-else-self
unfolding beyond_wrong
returns-else-self c = simp c.if-self.false
