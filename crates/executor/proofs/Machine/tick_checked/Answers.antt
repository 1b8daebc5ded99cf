-- Each refusal in the order of the rows; past them the state is one that the effect admits.
use mathlib.Core.Path.{◌≡◌, sym, ap, ◌∙◌}
use mathlib.Core.Bool.{false}
use native.Mathlib.Omega.{arith}
use borrow.Author.Rules.{rules}
use Rattle.ranges.specs.Every.{within}
use Rattle.masks.proofs.Index.{is_none, is_some}
use Rattle.numbers.specs.Numbers.{longest}
use Rattle.executor.specs.Tick.{refused}
use Rattle.executor.proofs.FaultLaws.{faulty_by, right_by}
use Rattle.executor.proofs.ValidLaws.{table_sound, valid_of}
use Rattle.executor.proofs.TickLaws.{tick_faulty, tick_spent, tick_cost, tick_foreign, tick_admitted, cost-none, cost_large, cost_right}
use Rattle.executor.proofs.Machine.tick_checked.Goals as goal
use Rattle.executor.proofs.Machine.tick_checked.Goals.{then-cost-eq0-via-then-cost-eq0, then-cost-eq0-via-else-cost-eq0+then-cost}

pub returns-then-state_fault : goal.returns-then-state_fault
returns-then-state_fault c =
    c.refuse.ensures ∙ ap (refused c.args.self) c.at.ensures ∙ tick_faulty c.args.self _ _ _ (sym c.if-state_fault.true ∙ faulty_by c.args.self _ c.requires c.state_fault.ensures)

pub returns-then-self-ge-MOST_TICKS : goal.returns-then-self-ge-MOST_TICKS
returns-then-self-ge-MOST_TICKS c =
    c.refuse-then-self-ge-MOST_TICKS.ensures
    ∙ ap (refused c.args.self) c.at-then-self-ge-MOST_TICKS.ensures
    ∙ tick_spent c.args.self _ _ _ (right_by c.args.self _ c.requires c.state_fault.ensures c.if-state_fault.false) c.if-self-ge-MOST_TICKS.true

pub returns-then-cost-eq0 : goal.returns-then-cost-eq0
returns-then-cost-eq0 c =
    let wrong : within 1 longest c.args.cost ≡ false =
    elim c.then-cost-eq0.branch [ then-cost-eq0-via-then-cost-eq0 w ↦ cost-none _ w.if-cost-eq0.true | then-cost-eq0-via-else-cost-eq0+then-cost w ↦ cost_large _ w.if-cost.true ] in
    c.refuse-then-cost-eq0.ensures
    ∙ ap (refused c.args.self) c.at-then-cost-eq0.ensures
    ∙ tick_cost c.args.self _ _ _ (right_by c.args.self _ c.requires c.state_fault.ensures c.if-state_fault.false) c.if-self-ge-MOST_TICKS.false wrong

pub lowest_foreign-requires : goal.lowest_foreign-requires
lowest_foreign-requires c = (table_sound _ c.requires).few

pub returns-in-Some : goal.returns-in-Some
returns-in-Some c =
    let h = is_some _ _ c.in-Some.ensures in
    c.refuse-in-Some.ensures
    ∙ ap (refused c.args.self) c.at-in-Some.ensures
    ∙ tick_foreign c.args.self _ _ _ (right_by c.args.self _ c.requires c.state_fault.ensures c.if-state_fault.false) c.if-self-ge-MOST_TICKS.false
    (cost_right _ c.if-cost-eq0.false c.if-cost.false) _ (sym h.0) (λ z. h.1 (h.0 ∙ z))

pub advance-requires : goal.advance-requires
advance-requires c = (
  (let v = valid_of c.args.self (search rules, search rules) (search rules) c.requires (sym c.state_fault.ensures ∙ c.if-state_fault.false) in
      record { valid = v.0; room = v.1; early = c.if-self-ge-MOST_TICKS.false; priced = (omega arith, c.if-cost.false) }),
  is_none _ c.in_default.ensures,
)

pub returns : goal.returns
returns c =
    c.advance.ensures
    ∙ tick_admitted c.args.self _ _ _ (right_by c.args.self _ c.requires c.state_fault.ensures c.if-state_fault.false) c.if-self-ge-MOST_TICKS.false
    (cost_right _ c.if-cost-eq0.false c.if-cost.false) (is_none _ c.in_default.ensures)
