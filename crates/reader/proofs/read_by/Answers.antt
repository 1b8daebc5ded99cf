-- `read_by` meets its contract: 1 and 4 from the bytes, 2 and 3 from the first two, the rest from the values that they hold. Assumes nothing.
use mathlib.Core.Path.{◌≡◌, refl, sym, ap, ◌∙◌, subst}
use native.Mathlib.Omega.{arith}
use lib.ListN.{get_or}
use Prim.Native.Nat.{◌≤◌}
use Rattle.std.specs.Prelude.{Ok, Err}
use Rattle.std.proofs.lemmas.Result.{err_from_is_err_and}
use Rattle.numbers.specs.Numbers.{places}
use Rattle.lent.specs.Bytes.{numbers, fields_at}
use Rattle.table.specs.declared.Refusal.{Refusal}
use Rattle.table.specs.declared.Table.{Table}
use Rattle.table.specs.Values.{unless}
use Rattle.table.proofs.RefusalLaws.{err_refused, ok_passed}
use Rattle.rules.specs.Rules.{head_fault}
use Rattle.rules.proofs.Passed.{head_passed}
use Rattle.reader.specs.Format.{table_at, read_fault_by}
use Rattle.reader.proofs.FormatLaws.{read_short, read_head, read_off, read_whole, read_err, read_ok, read_both}
use Rattle.reader.proofs.read_by.Goals as goal
use Rattle.reader.proofs.read_by.Goals.{In_ok-check_head, After-check_body}

pub returns-then-bytes-lt-HEADER_LENGTH : goal.returns-then-bytes-lt-HEADER_LENGTH
returns-then-bytes-lt-HEADER_LENGTH c =
    let a = c.args in
    read_both _ _ (ap Err c.at.ensures ∙ sym (read_err a.sums a.bytes.now _ (read_short a.sums a.bytes.now c.if-bytes-lt-HEADER_LENGTH.true) (λ e. omega arith)))

pub returns-in_err-check_head : goal.returns-in_err-check_head
returns-in_err-check_head c =
    let a = c.args in
    let said = err_refused _ _ _ (sym c.check_head.ensures ∙ c.in_err-check_head.was) in
    let p = err_from_is_err_and c.from_residual.result c.from_residual.ensures.1 in
    read_both _ _ (p.1 ∙ ap Err (p.2 ∙ said.0) ∙ sym (read_err a.sums a.bytes.now _ (read_head a.sums a.bytes.now c.if-bytes-lt-HEADER_LENGTH.false _ refl said.1) said.1))

-- 2 and 3 have passed
head_zero : (c : In_ok-check_head) → (head_fault (get_or c.args.bytes.now 0 0) (get_or c.args.bytes.now 1 0)).number ≡ 0
head_zero c = (ok_passed _ _ _ (sym c.check_head.ensures ∙ c.in_ok-check_head.was)).1

-- so there are 16 callbacks at most
few : (c : In_ok-check_head) → get_or c.args.bytes.now 1 0 ≤ places
few c = (head_passed _ _ (head_zero c)).few

pub returns-then-bytes-n : goal.returns-then-bytes-n
returns-then-bytes-n c =
    let a = c.args in
    read_both _ _
    (ap Err c.at-then-bytes-n.ensures
    ∙ sym (read_err a.sums a.bytes.now _ (read_off a.sums a.bytes.now c.if-bytes-lt-HEADER_LENGTH.false _ refl (head_zero (goal.at.returns-then-bytes-n c).In_ok-check_head) c.if-bytes-n.true) (λ e. omega arith)))

pub table_at-t-requires : goal.table_at-t-requires
table_at-t-requires c = (c.if-bytes-lt-HEADER_LENGTH.false, few (goal.at.table_at-t-requires c).In_ok-check_head, c.if-bytes-n.false)

pub spares_at-requires : goal.spares_at-requires
spares_at-requires c = (omega arith, few (goal.at.spares_at-requires c).In_ok-check_head, c.if-bytes-n.false)

pub check_body-requires : goal.check_body-requires
unfolding table_at fields_at numbers
check_body-requires c = subst (λ (t : Table). t.count ≤ places) (sym c.table_at-t.ensures) (few (goal.at.check_body-requires c).In_ok-check_head)

-- what the rules say of the values
whole : (c : After-check_body) → (r : Refusal) × (read_fault_by c.args.sums c.args.bytes.now ≡ r) × (c.check_body.result ≡ unless r tt)
whole c =
    let head = (ok_passed _ _ _ (sym c.check_head.ensures ∙ c.in_ok-check_head.was)).1 in (
      _,
      read_whole c.args.sums c.args.bytes.now c.if-bytes-lt-HEADER_LENGTH.false _ refl head c.if-bytes-n.false _ c.all_zero-spare.ensures _ c.spares_at.ensures _ c.table_at-t.ensures,
      c.check_body.ensures,
    )

pub returns-in_err-check_body : goal.returns-in_err-check_body
returns-in_err-check_body c =
    let w = whole (goal.at.returns-in_err-check_body c).After-check_body in
    let said = err_refused _ _ _ (sym w.2 ∙ c.in_err-check_body.was) in
    let p = err_from_is_err_and c.from_residual-in_err-check_body.result c.from_residual-in_err-check_body.ensures.1 in
    read_both _ _ (p.1 ∙ ap Err (p.2 ∙ said.0) ∙ sym (read_err _ _ _ w.1 said.1))

pub returns : goal.returns
returns c =
    let w = whole (goal.at.returns c).After-check_body in
    read_both _ _ (ap Ok c.table_at-t.ensures ∙ sym (read_ok _ _ _ w.1 (ok_passed _ _ _ (sym w.2 ∙ c.in_ok-check_body.was)).1))
