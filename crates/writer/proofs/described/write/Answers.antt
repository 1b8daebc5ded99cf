-- What is written is the described table in its fields' widths: as good as the described one.
use mathlib.Core.Path.{sym, ap, ◌∙◌}
use mathlib.Core.List.{[], ◌∷◌}
use lib.ListN.{length}
use Rattle.table.specs.declared.Table.{Table}
use Rattle.writer.specs.Writer.{write_of, buffer_after}
use Rattle.writer.proofs.DescribedLaws.{described-narrow}
use Rattle.writer.proofs.described.write.Goals as goal

pub returns : goal.returns
returns c =
    let a = c.args in
    let b = a.buffer.now in
    let same = described-narrow (a.edition ∷ a.count ∷ []) (a.budget ∷ a.period ∷ a.horizon ∷ a.delay ∷ []) a.records.now b in (
      c.write.ensures.0 ∙ ap (λ (x : Table). write_of x (length b)) c.table_of-t.ensures ∙ sym same.0,
      c.write.ensures.1 ∙ ap (λ (x : Table). buffer_after x b) c.table_of-t.ensures ∙ sym same.1,
    )
