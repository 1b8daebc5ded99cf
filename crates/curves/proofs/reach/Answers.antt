-- `reach` meets its contract: case by case.
use mathlib.Core.Path.{sym, ◌∙◌}
use native.Mathlib.Omega.{arith}
use Rattle.curves.proofs.SupplyLaws.{reach_above, reach_inside, reach-none, reach-some}
use Rattle.curves.specs.Parts.{reach}
use Rattle.curves.proofs.reach.Goals as goal

pub returns-then-demand-most : goal.returns-then-demand-most
returns-then-demand-most c = let a = c.args in omega (arith, reach_above a.most a.demand (reach a.budget a.period a.delay) c.if-demand-most.true)

pub returns-then-demand-eq0 : goal.returns-then-demand-eq0
returns-then-demand-eq0 c =
    let a = c.args in
    sym (reach_inside a.most a.demand (reach a.budget a.period a.delay) c.if-demand-most.false ∙ reach-none a.budget a.period a.delay a.demand c.if-demand-eq0.true)

pub returns : goal.returns
returns c =
    let a = c.args in
    sym (reach_inside a.most a.demand (reach a.budget a.period a.delay) c.if-demand-most.false ∙ reach-some a.budget a.period a.delay a.demand (omega arith))
