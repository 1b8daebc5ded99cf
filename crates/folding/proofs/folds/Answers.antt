-- `folds` meets its contract: case by case.
use Rattle.folding.proofs.FoldingLaws.{folds_behind, folds_other}
use native.Mathlib.Omega.{arith}
use Rattle.folding.proofs.folds.Goals as goal

pub returns-then-running-slot : goal.returns-then-running-slot
returns-then-running-slot c = (let a = c.args in folds_behind a.kind a.waiting a.running a.slot (omega (arith, c.if-kind.false)) (omega (arith, c.if-running-slot.true)))

pub returns : goal.returns
returns c = (let a = c.args in folds_other a.kind a.waiting a.running a.slot (omega (arith, c.if-kind.false)) (λ e. c.if-running-slot.false (omega arith)))
