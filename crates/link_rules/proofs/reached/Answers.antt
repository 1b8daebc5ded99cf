use mathlib.Core.Path.{sym, ap, ◌∙◌}
use Rattle.table.specs.Values.{next_of}
use Rattle.link_rules.proofs.LoopLaws.{reached_start, reached_in, reached_out}
use Rattle.link_rules.specs.Parts.{marks}
use Rattle.link_rules.proofs.reached.Goals as goal
use Rattle.link_rules.proofs.reached.Goals.{then-test_slot, else-test_slot}

pub loop-i-init : goal.loop-i-init
loop-i-init c = reached_start _ _

pub loop-i-preserved : goal.loop-i-preserved
loop-i-preserved c =
    let a = c.args in
    let l = c.loop-i in
    let test = c.test_slot.ensures in
    elim c.if-test_slot.branch [
      | then-test_slot w ↦ w.met-is ∙ w.marked-met.ensures ∙ ap (marks (next_of a.t) a.t.count _) l.invariant ∙ reached_in a.t a.heads l.i (sym test ∙ w.if-test_slot.true)
      | else-test_slot w ↦ w.met-is ∙ l.invariant ∙ reached_out a.t a.heads l.i (sym test ∙ w.if-test_slot.false)
    ]
