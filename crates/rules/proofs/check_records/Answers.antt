use mathlib.Core.Path.{refl, sym, ap, ◌∙◌}
use Rattle.std.specs.Prelude.{Err}
use Rattle.table.specs.declared.Refusal.{Refusal}
use Rattle.table.specs.Values.{unless, callback_at}
use Rattle.table.proofs.RowLaws.{some_number}
use Rattle.table.proofs.RefusalLaws.{refused}
use Rattle.rules.specs.Parts.{row_number}
use Rattle.rules.specs.Rules.{record_fault_by}
use Rattle.rules.proofs.RulesLaws.{records_next, records_stop, records_end}
use Rattle.rules.proofs.check_records.Goals as goal

pub returns-in-Err : goal.returns-in-Err
returns-in-Err c =
    let a = c.args in
    let known = ap row_number (sym c.in-Err.is) ∙ c.check_record.ensures ∙ ap (record_fault_by a.sums a.t.count (callback_at a.t c.loop-i.i)) c.test_slot-spare.ensures in
    let why = sym c.loop-i.invariant ∙ records_stop a.sums a.spares a.t _ c.loop-i.i c.loop-i-test.true _ known (some_number c.in-Err.row) in
    ap Err c.at.ensures ∙ sym (ap (λ (r : Refusal). unless r tt) why ∙ refused _ tt (some_number c.in-Err.row))

pub loop-i-preserved : goal.loop-i-preserved
loop-i-preserved c =
    let a = c.args in
    let known = ap row_number (sym c.in_default.is) ∙ c.check_record.ensures ∙ ap (record_fault_by a.sums a.t.count (callback_at a.t c.loop-i.i)) c.test_slot-spare.ensures in
    sym (records_next a.sums a.spares a.t _ c.loop-i.i c.loop-i-test.true _ known refl) ∙ c.loop-i.invariant

pub returns : goal.returns
returns c = ap (λ (r : Refusal). unless r tt) (sym (sym c.loop-i.invariant ∙ records_end _ _ _ _ c.loop-i.i c.loop-i-test.false))
