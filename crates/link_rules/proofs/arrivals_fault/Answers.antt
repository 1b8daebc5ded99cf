-- `arrivals_fault` meets its contract: each test is one of rule 14's. Assumes nothing.
use mathlib.Core.Path.{sym, ◌∙◌}
use mathlib.Core.Logic.{inl, inr}
use mathlib.Core.Bool.{or-true}
use borrow.Author.Tests.{ne_eqb, lt-ltb, le-ltb, eq-eqb}
use Rattle.ranges.proofs.EveryLaws.{contains_within, never_both}
use Rattle.link_rules.specs.LinkRules.{arrivals_fault}
use Rattle.link_rules.proofs.arrivals_fault.Goals as goal
use Rattle.link_rules.proofs.arrivals_fault.Goals.{then-not-contains, else-not-contains, then-c-ne0, else-c-ne0}

pub returns-then-c-gt-LONGEST : goal.returns-then-c-gt-LONGEST
unfolding arrivals_fault
returns-then-c-gt-LONGEST c =
    let period = c.contains.ensures.value ∙ contains_within 1 60000 c.args.c.period _ _ _ c.new.ensures.start c.new.ensures.end c.new.ensures.exhausted in
    elim c.if-not-contains.branch [
      | then-not-contains w ↦ w.t-7-is ∙ simp (c.if-head.true, sym period, w.if-not-contains.true)
      | else-not-contains w ↦ w.t-7-is ∙ elim c.if-c-gt-LONGEST.either [
        | inl e ↦ absurd (never_both c.contains.result w.if-not-contains.false e)
        | inr h ↦ simp (c.if-head.true, sym period, h.0, lt-ltb _ _ h.1)
      ]
    ]

pub returns-else-c-gt-LONGEST : goal.returns-else-c-gt-LONGEST
unfolding arrivals_fault
returns-else-c-gt-LONGEST c =
    let period = c.contains.ensures.value ∙ contains_within 1 60000 c.args.c.period _ _ _ c.new.ensures.start c.new.ensures.end c.new.ensures.exhausted in
    let distance = c.contains-else-c-gt-LONGEST.ensures.value ∙ contains_within 1 c.args.c.period c.args.c.distance _ _ _ c.new-else-c-gt-LONGEST.ensures.start c.new-else-c-gt-LONGEST.ensures.end c.new-else-c-gt-LONGEST.ensures.exhausted in
    simp (c.if-head.true, sym period, c.if-c-gt-LONGEST.false.0, le-ltb _ _ c.if-c-gt-LONGEST.false.1, sym distance)

pub returns-then-c-ne0-2 : goal.returns-then-c-ne0-2
unfolding arrivals_fault
returns-then-c-ne0-2 c =
    elim c.if-c-ne0.branch [
      | then-c-ne0 w ↦ w.t-21-is ∙ simp (c.if-head.false, ne_eqb _ _ w.if-c-ne0.true)
      | else-c-ne0 w ↦ w.t-21-is ∙ elim c.if-c-ne0-2.either [
        | inl n ↦ absurd (n w.if-c-ne0.false)
        | inr h ↦ simp (c.if-head.false, ne_eqb _ _ h.1, or-true)
      ]
    ]

pub returns-else-c-ne0-2 : goal.returns-else-c-ne0-2
unfolding arrivals_fault
returns-else-c-ne0-2 c = simp (c.if-head.false, eq-eqb _ _ c.if-c-ne0-2.false.0, eq-eqb _ _ c.if-c-ne0-2.false.1)
