-- The length first, then the table; an accepted one is copied, and what follows it is zeroed.
use mathlib.Core.Path.{◌≡◌, sym, ◌∙◌}
use native.Mathlib.Omega.{arith}
use Rattle.table.proofs.RefusalLaws.{err_refused, ok_passed}
use Rattle.executor.specs.Start.{start_of}
use Rattle.cuorfelt.proofs.EdgeLaws.{start_short, start_size, start_refused, start_done}
use Rattle.cuorfelt.proofs.cuorfelt_start.Goals as goal
use Rattle.cuorfelt.proofs.cuorfelt_start.Goals.{In_default}

pub returns-then-state-ne-STATE_LENGTH : goal.returns-then-state-ne-STATE_LENGTH
returns-then-state-ne-STATE_LENGTH c = let x = start_short _ _ c.if-state-ne-STATE_LENGTH.true in (c.at.ensures ∙ x.0, x.1)

pub returns-in-Err : goal.returns-in-Err
returns-in-Err c =
    let said = err_refused _ _ _ (sym c.start.ensures ∙ c.in-Err.is) in
    let x = start_refused _ _ c.if-state-ne-STATE_LENGTH.false said.1 in
    (said.0 ∙ x.0, x.1)

-- where it is accepted
started : (c : In_default) → (start_of c.args.table.now).refusal.number ≡ 0
started c = (ok_passed _ _ _ (sym c.start.ensures ∙ c.in_default.is)).1

pub copy-requires : goal.copy-requires
copy-requires c = omega (arith, start_size _ (started (goal.at.copy-requires c).In_default))

pub overflow_sub-end : goal.overflow_sub-end
overflow_sub-end c = omega (arith, start_size _ (started (goal.at.overflow_sub-end c).In_default))

pub zero-requires : goal.zero-requires
zero-requires c =
    omega (arith, c.if-state-ne-STATE_LENGTH.false, c.copy.auto.b, start_size _ (started (goal.at.zero-requires c).In_default))

pub returns : goal.returns
returns c =
    let x = start_done c.args.table.now c.args.state.now c.if-state-ne-STATE_LENGTH.false (started (goal.at.returns c).In_default)
    (λ i. omega (arith, c.type_inv.table i))
    c.copy.ensures
    c.zero.ensures in
    (c.refused.ensures ∙ x.0, x.1)
