-- `table::links::heads` meets its contract: the heads are the slots that nobody names. Assumes nothing.
use mathlib.Core.Path.{ap, ◌∙◌}
use Prim.Native.Nat.{◌-◌, ◌^◌}
use Rattle.masks.specs.Parts.{except}
use Rattle.table.specs.declared.Names.{Names}
use Rattle.table.proofs.NamedLaws.{heads_law}
use Rattle.table.proofs.links.heads.Goals as goal

pub returns : goal.returns
returns c =
    let t = c.args.t in
    c.others.ensures ∙ ap (λ (s : Names). except (2 ^ t.count - 1) s.once) c.named.ensures ∙ heads_law t
