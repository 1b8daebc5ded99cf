-- `supply_fault` meets its contract: each test is one of rule 6's. Assumes nothing.
use mathlib.Core.Path.{◌∙◌}
use mathlib.Core.Logic.{inl, inr}
use borrow.Author.Tests.{eq-eqb, ne_eqb, lt-ltb, le-ltb}
use Rattle.rules.specs.Rules.{supply_fault}
use Rattle.rules.proofs.supply_fault.Goals as goal
use Rattle.rules.proofs.supply_fault.Goals.{then-budget-eq0, else-budget-eq0}

pub returns-then-budget-period : goal.returns-then-budget-period
unfolding supply_fault
returns-then-budget-period c =
    elim c.if-budget-eq0.branch [
      | then-budget-eq0 w ↦ w.t-4-is ∙ simp (eq-eqb _ _ w.if-budget-eq0.true)
      | else-budget-eq0 w ↦ w.t-4-is ∙ elim c.if-budget-period.either [
        | inl z ↦ absurd (w.if-budget-eq0.false z)
        | inr h ↦ simp (ne_eqb _ _ w.if-budget-eq0.false, lt-ltb _ _ h.1)
      ]
    ]

pub returns-else-budget-period : goal.returns-else-budget-period
unfolding supply_fault
returns-else-budget-period c = simp (ne_eqb _ _ c.if-budget-period.false.0, le-ltb _ _ c.if-budget-period.false.1)
