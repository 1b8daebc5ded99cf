-- `bounded` meets its contract: 15, then 16, then the bounds, each by the test that leads there.
use mathlib.Core.Path.{sym, ap, ◌∙◌}
use Prim.Native.Nat.{ℕ}
use native.Mathlib.Omega.{arith}
use Rattle.std.proofs.Common.{Result, Ok, Err}
use Rattle.masks.proofs.Index.{is_none, is_some}
use Rattle.numbers.specs.Numbers.{no_window, too_many}
use Rattle.table.specs.declared.Refusal.{Refusal}
use Rattle.table.specs.declared.Table.{Table}
use Rattle.table.specs.Values.{refuse, unless}
use Rattle.windows.specs.Bounds.{window_of}
use Rattle.sheet.specs.Sheet.{too_many_at, sheet_fault}
use Rattle.sheet.specs.Parts.{table_row}
use Rattle.sheet.proofs.RefusalLaws.{fault_none, fault_crowded, fault_passed, by_fault, by_none}
use Rattle.sheet.proofs.bounded.Goals as goal

-- the result that is asked for of a table
abbrev asked : Table → Result ℕ Refusal
asked t = unless (sheet_fault t) (window_of t)

pub returns-in_default : goal.returns-in_default
returns-in_default c =
    let e = c.of-t.ensures in
    let row = c.args.row.now in
    let t = c.of-t.result.table in
    let o = by_fault t row (refuse no_window 0) (fault_none t (is_none _ (sym c.in_default.is ∙ c.window.ensures.0))) (λ z. omega arith) in
    (ap Err c.at.ensures ∙ o.0 ∙ ap asked e, o.1 ∙ ap (λ (t : Table). table_row t row) e)

pub returns-in-Some-first_crowded : goal.returns-in-Some-first_crowded
returns-in-Some-first_crowded c =
    let e = c.of-t.ensures in
    let row = c.args.row.now in
    let t = c.of-t.result.table in
    let w = is_some _ _ c.in-Some.ensures.0 in
    let k = is_some _ _ c.in-Some-first_crowded.ensures in
    let j = c.in-Some-first_crowded.crowded in
    let o = by_fault t row (refuse too_many j) (fault_crowded t j w.1 (ap (too_many_at t) w.0 ∙ k.0) (λ z. k.1 (k.0 ∙ z))) (λ z. omega arith) in
    (ap Err c.at-in-Some-first_crowded.ensures ∙ o.0 ∙ ap asked e, o.1 ∙ ap (λ (t : Table). table_row t row) e)

pub returns : goal.returns
returns c =
    let e = c.of-t.ensures in
    let row = c.args.row.now in
    let t = c.of-t.result.table in
    let w = is_some _ _ c.in-Some.ensures.0 in
    let o = by_none t row (fault_passed t w.1 (ap (too_many_at t) w.0 ∙ is_none _ c.in_default-first_crowded.ensures)) in
    (ap Ok (sym w.0) ∙ o.0 ∙ ap asked e, c.write_bounds.ensures ∙ o.1 ∙ ap (λ (t : Table). table_row t row) e)
