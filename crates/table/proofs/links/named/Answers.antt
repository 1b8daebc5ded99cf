use mathlib.Core.Path.{ap, ap₂, ◌∙◌}
use borrow.Author.Rules.{rules}
use Rattle.table.specs.declared.Callback.{Callback}
use Rattle.table.specs.declared.Names.{Names}
use Rattle.table.specs.Parts.{name_one}
use Rattle.table.proofs.NamedLaws.{names_to, names-start, names_more, names_end}
use Rattle.table.proofs.UsedLaws.{used-at, used_end}
use Rattle.table.proofs.links.named.Goals as goal

pub loop-c-init : goal.loop-c-init
loop-c-init c = names-start _ _

pub loop-c-preserved : goal.loop-c-preserved
loop-c-preserved c =
    let t = c.args.t in
    let l = c.loop-c in
    c.name_one-names.ensures
    ∙ ap₂ (λ (s : Names) (x : Callback). name_one t.count s x.next) l.invariant (used-at t l.c-index c.loop-c-test.true)
    ∙ names_more t t.count l.c-index

pub returns : goal.returns
returns c =
    let t = c.args.t in
    let l = c.loop-c in
    l.invariant ∙ ap (names_to t t.count) (used_end t l.c-index c.requires (search rules) l.auto.c-index-end c.loop-c-test.false) ∙ names_end t
