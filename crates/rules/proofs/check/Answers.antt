-- `check` meets its contract: edition and count, then the rest. Assumes nothing.
use mathlib.Core.Path.{sym, ap, ◌∙◌}
use Rattle.std.specs.Prelude.{Err}
use Rattle.std.proofs.lemmas.Result.{err_from_is_err_and}
use Rattle.table.proofs.RefusalLaws.{err_refused, ok_passed, refused_first, passed_first}
use Rattle.rules.specs.Rules.{fault_of}
use Rattle.rules.proofs.Passed.{head_passed}
use Rattle.rules.proofs.check.Goals as goal

pub returns-in_err-check_head : goal.returns-in_err-check_head
unfolding fault_of
returns-in_err-check_head c =
    let p = err_from_is_err_and c.from_residual.result c.from_residual.ensures.1 in
    let (same, some) = err_refused _ _ _ (sym c.check_head.ensures ∙ c.in_err-check_head.was) in
    p.1 ∙ ap Err (p.2 ∙ same) ∙ sym (refused_first _ _ tt some)

pub check_body-requires : goal.check_body-requires
check_body-requires c = (head_passed _ _ (ok_passed _ _ _ (sym c.check_head.ensures ∙ c.in_ok-check_head.was)).1).few

pub returns : goal.returns
unfolding fault_of
returns c = c.check_body.ensures ∙ sym (passed_first _ _ tt (ok_passed _ _ _ (sym c.check_head.ensures ∙ c.in_ok-check_head.was)).1)
