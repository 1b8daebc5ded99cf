-- `analysed` meets its contract: 17, then the reader's refusal, then what the table gives, each by the test that leads there.
use mathlib.Core.Path.{sym, ap, subst, ◌∙◌}
use mathlib.Core.List.{List}
use Prim.Native.Nat.{ℕ}
use native.Mathlib.Omega.{arith}
use Rattle.std.proofs.Common.{Err}
use Rattle.std.proofs.lemmas.Result.{err_from_is_err_and}
use Rattle.table.specs.declared.Table.{Table}
use Rattle.table.specs.Values.{unless}
use Rattle.table.proofs.RefusalLaws.{err_refused, ok_passed}
use Rattle.rules.specs.Parts.{Sound}
use Rattle.reader.proofs.Accepted.{read_sound}
use Rattle.windows.specs.Bounds.{window_of}
use Rattle.sheet.specs.Sheet.{sheet_fault}
use Rattle.sheet.specs.Parts.{table_row}
use Rattle.sheet.proofs.RefusalLaws.{short_row_lem, misread, well_read}
use Rattle.sheet.proofs.analysed.Goals as goal

pub returns-then-row : goal.returns-then-row
returns-then-row c = let o = short_row_lem c.args.bytes.now c.args.row.now c.if-row.true in (ap Err c.at.ensures ∙ o.0, o.1)

pub returns-in_err-read : goal.returns-in_err-read
returns-in_err-read c =
    let said = err_refused _ _ _ (sym c.in_err-read.ensures.0) in
    let o = misread c.args.bytes.now c.args.row.now c.if-row.false said.1 in
    let p = err_from_is_err_and c.from_residual.result c.from_residual.ensures.1 in
    (p.1 ∙ ap Err (p.2 ∙ said.0) ∙ o.0, o.1)

pub bounded-requires : goal.bounded-requires
bounded-requires c =
    let read = ok_passed _ _ _ (sym c.in_ok-read.ensures.0) in
    (subst Sound (sym read.0) (read_sound _ read.1), omega arith)

pub returns : goal.returns
returns c =
    let row : List ℕ = c.args.row.now in
    let read = ok_passed _ _ _ (sym c.in_ok-read.ensures.0) in
    let o = well_read c.args.bytes.now row c.if-row.false read.1 in (
      c.bounded.ensures.0 ∙ ap (λ (t : Table). unless (sheet_fault t) (window_of t)) read.0 ∙ o.0,
      c.bounded.ensures.1 ∙ ap (λ (t : Table). table_row t row) read.0 ∙ o.1,
    )
