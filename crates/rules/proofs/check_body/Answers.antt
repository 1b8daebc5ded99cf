-- `check_body` meets its contract: the header's tests in their order, then the records, then the links. Assumes nothing.
use mathlib.Core.Path.{◌≡◌, sym, ap, ◌∙◌}
use mathlib.Core.Bool.{Bool, false}
use Prim.Native.Nat.{ℕ, ◌≤◌}
use borrow.Author.Tests.{lt-ltb, le-ltb}
use Rattle.std.specs.Prelude.{Err}
use Rattle.std.proofs.lemmas.Result.{err_from_is_err_and}
use Rattle.numbers.specs.Numbers.{longest}
use Rattle.table.specs.declared.Refusal.{Refusal}
use Rattle.table.specs.declared.Table.{Table}
use Rattle.table.specs.Values.{refuse, or_else, unless}
use Rattle.table.proofs.RefusalLaws.{err_refused, ok_passed, refused_first, passed_first}
use Rattle.link_rules.specs.LinkRules.{links_fault}
use Rattle.rules.specs.Rules.{supply_fault, records_by, body_by}
use Rattle.rules.proofs.Passed.{records_known}
use Rattle.rules.proofs.check_body.Goals as goal

pub returns-then-spare : goal.returns-then-spare
unfolding body_by
returns-then-spare c =
    let a = c.args in
    let why : body_by a.sums a.spare a.spares a.t ≡ refuse 5 0 = simp c.if-spare.true in
    ap Err c.at.ensures ∙ ap (λ (r : Refusal). unless r tt) (sym why)

pub returns-then-supply_fault : goal.returns-then-supply_fault
unfolding body_by
returns-then-supply_fault c =
    let a = c.args in
    let why : body_by a.sums a.spare a.spares a.t ≡ refuse 6 0 = simp (c.if-spare.false, sym c.supply_fault.ensures ∙ c.if-supply_fault.true) in
    ap Err c.at-then-supply_fault.ensures ∙ ap (λ (r : Refusal). unless r tt) (sym why)

pub returns-then-t-gt-LONGEST : goal.returns-then-t-gt-LONGEST
unfolding body_by
returns-then-t-gt-LONGEST c =
    let a = c.args in
    let why : body_by a.sums a.spare a.spares a.t ≡ refuse 22 0 = simp (c.if-spare.false, sym c.supply_fault.ensures ∙ c.if-supply_fault.false, lt-ltb _ _ c.if-t-gt-LONGEST.true) in
    ap Err c.at-then-t-gt-LONGEST.ensures ∙ ap (λ (r : Refusal). unless r tt) (sym why)

pub returns-then-t-gt-LONGEST-2 : goal.returns-then-t-gt-LONGEST-2
unfolding body_by
returns-then-t-gt-LONGEST-2 c =
    let a = c.args in
    let why : body_by a.sums a.spare a.spares a.t ≡ refuse 7 0 = simp (c.if-spare.false, sym c.supply_fault.ensures ∙ c.if-supply_fault.false, le-ltb _ _ c.if-t-gt-LONGEST.false, lt-ltb _ _ c.if-t-gt-LONGEST-2.true) in
    ap Err c.at-then-t-gt-LONGEST-2.ensures ∙ ap (λ (r : Refusal). unless r tt) (sym why)

-- what is left behind the header's tests
rest : (sums spare : Bool) (spares : ℕ) (t : Table) → spare ≡ false → supply_fault t.budget t.period ≡ false → t.delay ≤ longest → t.horizon ≤ longest
    → body_by sums spare spares t ≡ or_else (records_by sums spares t t.count 0) (links_fault t)
unfolding body_by
rest sums spare spares t clear supply delay horizon = simp (clear, supply, le-ltb _ _ delay, le-ltb _ _ horizon)

pub returns-in_err-check_records : goal.returns-in_err-check_records
returns-in_err-check_records c =
    let p = err_from_is_err_and c.from_residual.result c.from_residual.ensures.1 in
    let (same, some) = err_refused _ _ _ (sym c.check_records.ensures ∙ c.in_err-check_records.was) in
    let left = rest c.args.sums _ c.args.spares c.args.t c.if-spare.false (sym c.supply_fault.ensures ∙ c.if-supply_fault.false) c.if-t-gt-LONGEST.false c.if-t-gt-LONGEST-2.false in
    p.1 ∙ ap Err (p.2 ∙ same) ∙ sym (ap (λ (r : Refusal). unless r tt) left ∙ refused_first _ _ tt some)

pub check_links-requires : goal.check_links-requires
check_links-requires c = (c.requires, records_known c.args.sums c.args.spares c.args.t (ok_passed _ _ _ (sym c.check_records.ensures ∙ c.in_ok-check_records.was)).1)

pub returns : goal.returns
returns c =
    let (_, none) = ok_passed _ _ _ (sym c.check_records.ensures ∙ c.in_ok-check_records.was) in
    let behind = rest c.args.sums _ c.args.spares c.args.t c.if-spare.false (sym c.supply_fault.ensures ∙ c.if-supply_fault.false) c.if-t-gt-LONGEST.false c.if-t-gt-LONGEST-2.false in
    c.check_links.ensures ∙ sym (ap (λ (r : Refusal). unless r tt) behind ∙ passed_first _ _ tt none)
