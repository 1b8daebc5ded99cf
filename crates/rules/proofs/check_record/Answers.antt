-- `check_record` meets its contract: the tests come in the order of the rules. Assumes nothing.
use mathlib.Core.Path.{sym, ap, ◌∙◌}
use mathlib.Core.Logic.{inl, inr}
use mathlib.Core.Bool.{or-true}
use borrow.Author.Tests.{lt-ltb, le-ltb}
use Rattle.std.specs.Result.{is_err}
use Rattle.table.proofs.KindLaws.{unknown_kind}
use Rattle.rules.specs.Rules.{record_fault_by}
use Rattle.rules.proofs.Sound.{cost_count}
use Rattle.rules.proofs.check_record.Goals as goal

pub returns-then-is_err : goal.returns-then-is_err
unfolding record_fault_by
returns-then-is_err c =
    let kind = sym (c.is_err.ensures.value ∙ ap is_err c.try_from.ensures ∙ unknown_kind c.args.c.kind) ∙ c.if-is_err.true in
    simp kind

pub returns-then-c-n : goal.returns-then-c-n
unfolding record_fault_by
returns-then-c-n c =
    let kind = sym (c.is_err.ensures.value ∙ ap is_err c.try_from.ensures ∙ unknown_kind c.args.c.kind) ∙ c.if-is_err.false in
    simp (kind, lt-ltb _ _ c.if-c-n.true)

pub returns-then-entries_fault : goal.returns-then-entries_fault
unfolding record_fault_by
returns-then-entries_fault c =
    let kind = sym (c.is_err.ensures.value ∙ ap is_err c.try_from.ensures ∙ unknown_kind c.args.c.kind) ∙ c.if-is_err.false in
    simp (kind, le-ltb _ _ c.if-c-n.false, sym c.entries_fault.ensures ∙ c.if-entries_fault.true)

-- 10 has passed, so that there are eight entries at most
pub sums_fault-requires : goal.sums_fault-requires
sums_fault-requires c = (cost_count _ (sym c.entries_fault.ensures ∙ c.if-entries_fault.false)).1

pub returns-then-sums_fault : goal.returns-then-sums_fault
unfolding record_fault_by
returns-then-sums_fault c =
    let kind = sym (c.is_err.ensures.value ∙ ap is_err c.try_from.ensures ∙ unknown_kind c.args.c.kind) ∙ c.if-is_err.false in
    simp (kind, le-ltb _ _ c.if-c-n.false, sym c.entries_fault.ensures ∙ c.if-entries_fault.false, sym c.sums_fault.ensures ∙ c.if-sums_fault.true)

pub returns-then-unused_fault : goal.returns-then-unused_fault
unfolding record_fault_by
returns-then-unused_fault c =
    let kind = sym (c.is_err.ensures.value ∙ ap is_err c.try_from.ensures ∙ unknown_kind c.args.c.kind) ∙ c.if-is_err.false in
    elim c.then-unused_fault.either [
      | inl u ↦ simp (kind, le-ltb _ _ c.if-c-n.false, sym c.entries_fault.ensures ∙ c.if-entries_fault.false, sym c.sums_fault.ensures ∙ c.if-sums_fault.false, sym c.unused_fault.ensures ∙ u)
      | inr b ↦ simp (kind, le-ltb _ _ c.if-c-n.false, sym c.entries_fault.ensures ∙ c.if-entries_fault.false, sym c.sums_fault.ensures ∙ c.if-sums_fault.false, b.1, or-true)
    ]

pub returns : goal.returns
unfolding record_fault_by
returns c =
    let kind = sym (c.is_err.ensures.value ∙ ap is_err c.try_from.ensures ∙ unknown_kind c.args.c.kind) ∙ c.if-is_err.false in
    simp (kind, le-ltb _ _ c.if-c-n.false, sym c.entries_fault.ensures ∙ c.if-entries_fault.false, sym c.sums_fault.ensures ∙ c.if-sums_fault.false, sym c.unused_fault.ensures ∙ c.if-unused_fault.false, c.if-spare.false)
