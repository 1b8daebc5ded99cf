-- The part's number is that of the bytes.
use mathlib.Core.Path.{ap, ◌∙◌}
use native.Mathlib.Nat.{add-zero}
use native.Mathlib.Omega.{arith}
use Rattle.lent.specs.Bytes.{get}
use Rattle.lent.proofs.Numbers.{get_part}
use Rattle.lent.proofs.get.Goals as goal

pub returns : goal.returns
returns g c =
    let w = g.T.Number.WIDTH in
    let a = c.args in
    c.read.ensures ∙ get_part w _ a.b.now a.at 0 (omega (arith, c.WIDTH.ensures)) ∙ ap (get w a.b.now) (add-zero a.at)
