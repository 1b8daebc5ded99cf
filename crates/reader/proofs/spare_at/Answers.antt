-- `spare_at` meets its contract: one run of spare bytes after the other. Assumes nothing.
use mathlib.Core.Path.{sym, ◌∙◌}
use Rattle.std.proofs.lemmas.Bool.{false≢true}
use borrow.Author.Tests.{not-false, not-true}
use Rattle.reader.proofs.FormatLaws.{spare_first, spare_second, spare_third}
use Rattle.reader.proofs.spare_at.Goals as goal
use Rattle.reader.proofs.spare_at.Goals.{then-not-all_zero, else-not-all_zero}

pub returns-then-not-all_zero-2 : goal.returns-then-not-all_zero-2
returns-then-not-all_zero-2 c =
    c.if-not-all_zero-2.true
    ∙ elim c.if-not-all_zero.branch [
      | then-not-all_zero w ↦ spare_first _ c.args.at _ c.all_zero.ensures w.if-not-all_zero.true
      | else-not-all_zero w ↦ spare_second _ c.args.at _ c.all_zero.ensures _ w.all_zero-else-not-all_zero.ensures (not-true _ (sym w.value-is ∙ c.if-not-all_zero-2.true))
    ]

pub returns-else-not-all_zero-2 : goal.returns-else-not-all_zero-2
returns-else-not-all_zero-2 c =
    elim c.if-not-all_zero.branch [
      | then-not-all_zero w ↦ absurd (false≢true (sym w.if-not-all_zero.true ∙ not-false _ (sym w.value-is ∙ c.if-not-all_zero-2.false)))
      | else-not-all_zero w ↦ spare_third _ c.args.at _ c.all_zero.ensures _ w.all_zero-else-not-all_zero.ensures w.if-not-all_zero.false (not-false _ (sym w.value-is ∙ c.if-not-all_zero-2.false)) _ c.all_zero-else-not-all_zero-2.ensures
    ]
