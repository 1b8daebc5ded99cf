-- The part lent is given back as the number's bytes.
use mathlib.Core.Path.{ap, ◌∙◌}
use mathlib.Core.List.{List}
use Prim.Native.Nat.{ℕ}
use lib.ListN.{length}
use native.Mathlib.Omega.{arith}
use Rattle.lent.specs.Over.{over}
use Rattle.lent.proofs.Replace.{over-part}
use Rattle.lent.proofs.Numbers.{length-le}
use Rattle.lent.proofs.put.Goals as goal

pub returns : goal.returns
returns g c =
    let w = g.T.Number.WIDTH in
    let a = c.args in
    over-part a.b.now c.write.new.bytes a.at _ (omega (arith, c.WIDTH.ensures, ap length c.write.ensures, length-le w (g.T.Number.value a.x)))
    ∙ ap (λ (l : List ℕ). over a.b.now a.at l) c.write.ensures
