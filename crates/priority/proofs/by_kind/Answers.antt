use mathlib.Core.Path.{ap₂, ◌∙◌}
use borrow.Author.Rules.{rules}
use Rattle.masks.specs.Mask.{gather}
use Rattle.table.specs.declared.Callback.{Callback}
use Rattle.table.proofs.UsedLaws.{used-at}
use Rattle.priority.specs.declared.Kinds.{Kinds}
use Rattle.priority.specs.Parts.{kinds_to, sort_one}
use Rattle.priority.proofs.PriorityLaws.{kinds_more}
use Rattle.priority.proofs.by_kind.Goals as goal

pub loop-i-init : goal.loop-i-init
unfolding kinds_to gather
loop-i-init c = search rules

pub loop-i-preserved : goal.loop-i-preserved
loop-i-preserved c =
    let t = c.args.t in
    let l = c.loop-i in
    c.sort_one-k.ensures ∙ ap₂ (λ (k : Kinds) (x : Callback). sort_one k x.kind l.i) l.invariant (used-at t l.i c.loop-i-test.true) ∙ kinds_more t l.i
