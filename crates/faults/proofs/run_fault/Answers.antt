-- Each test of the definition is one of the code.
use mathlib.Core.Path.{ap, ◌∙◌}
use mathlib.Core.Bool.{not}
use native.Mathlib.Omega.{arith}
use borrow.Author.Tests.{eq-eqb, ne_eqb, lt-ltb, le-ltb}
use Rattle.ranges.proofs.EveryLaws.{contains_within}
use Rattle.faults.specs.Faults.{run_wrong}
use Rattle.faults.proofs.run_fault.Goals as goal

pub returns-then-running-eq0 : goal.returns-then-running-eq0
unfolding run_wrong
returns-then-running-eq0 c = simp (le-ltb c.args.n c.args.running (omega (arith, c.if-running-eq0.true)), eq-eqb _ _ c.if-running-eq0.true)

pub returns-then-running-n : goal.returns-then-running-n
unfolding run_wrong
returns-then-running-n c = simp (lt-ltb _ _ c.if-running-n.true)

pub returns-else-running-n : goal.returns-else-running-n
unfolding run_wrong
returns-else-running-n c =
    simp (le-ltb _ _ c.if-running-n.false, ne_eqb _ _ c.if-running-eq0.false)
    (ap not (c.contains.ensures.value ∙ contains_within 1 60000 c.args.units _ _ _ c.new.ensures.start c.new.ensures.end c.new.ensures.exhausted))
