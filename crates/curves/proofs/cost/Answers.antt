-- `cost` meets its contract: it reads the entries that the definition names, and none is more than 65,535.
use mathlib.Core.Path.{ap}
use Prim.Native.Nat.{◌%◌}
use native.Mathlib.Omega.{arith}
use lib.ListN.{length}
use Rattle.curves.specs.Cost.{entry}
use Rattle.curves.proofs.CostLaws.{cost_read, cost_under, entry_at}
use Rattle.curves.proofs.cost.Goals as goal

pub returns-then-left-eq0 : goal.returns-then-left-eq0
returns-then-left-eq0 c =
    let es = c.args.entries.now in
    let n = c.args.count in
    omega (arith, cost_read es n c.requires.0, cost_under es n c.requires.0 65535 (λ k. omega (arith, c.type_inv.entries k)), ap (entry es) c.if-left-eq0.true)

pub returns : goal.returns
returns c =
    let es = c.args.entries.now in
    let n = c.args.count in
    omega (arith, cost_read es n c.requires.0, cost_under es n c.requires.0 65535 (λ k. omega (arith, c.type_inv.entries k)), entry_at es (n % length es) (omega arith))
