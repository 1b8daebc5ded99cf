-- A failed read ends with 2, and so does what was not all written; else the status is that of what `report` printed.
use mathlib.Core.Path.{◌≡◌, sym, subst, ◌∙◌}
use mathlib.Core.Bool.{Bool, true, false}
use mathlib.Core.List.{List}
use Prim.Native.Nat.{ℕ}
use borrow.Author.Rules.{rules}
use Rattle.numbers.specs.Numbers.{places}
use Rattle.sheet.specs.Sheet.{sheet_of}
use Rattle.report.specs.declared.Printed.{Printed}
use Rattle.report.specs.Status.{status_of, failed, Ends}
use Rattle.report.proofs.StatusLaws.{unwritten_of}
use Rattle.report.proofs.conclude.Goals as goal

ends_unread : (b : List ℕ) (u : Bool) (r : ℕ) → u ≡ true → r ≡ failed → Ends b u r
unfolding Ends
ends_unread b u r unread status = subst (λ (v : Bool). Ends b v r) (sym unread) status

ends_read : (b : List ℕ) (u : Bool) (r : ℕ) (p : Printed) → u ≡ false → p.sheet ≡ sheet_of b places → r ≡ status_of p → Ends b u r
unfolding Ends
ends_read b u r p read sheet status = subst (λ (v : Bool). Ends b v r) (sym read) (p, sheet, status)

pub returns-then-unread : goal.returns-then-unread
returns-then-unread c = ends_unread _ _ _ (search rules) c.fail.ensures

pub returns-then-not-printed : goal.returns-then-not-printed
returns-then-not-printed c =
    ends_read _ _ _ _ (search rules) c.report-printed.ensures (c.fail-then-not-printed.ensures ∙ sym (unwritten_of c.report-printed.result (search rules)))

pub returns : goal.returns
returns c = ends_read _ _ _ _ (search rules) (search rules) c.status.ensures
