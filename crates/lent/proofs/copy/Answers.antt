use mathlib.Core.Path.{refl, sym, ap, ◌∙◌}
use mathlib.Core.List.{List}
use Prim.Native.Nat.{ℕ, ◌+◌}
use lib.ListN.{get_or, set}
use Rattle.std.proofs.lemmas.List.{length-set}
use native.Mathlib.Omega.{arith}
use Rattle.lent.proofs.Replace.{over_nil, over-take}
use Rattle.lent.proofs.copy.Goals as goal

pub loop-i-init : goal.loop-i-init
loop-i-init c = (omega arith, refl, sym (over_nil _ _))

pub loop-i-preserved : goal.loop-i-preserved
loop-i-preserved c =
    let a = c.args in
    let l = c.loop-i in (
      omega arith,
      length-set l.b (a.at + l.i) (get_or a.from.now l.i 0) ∙ l.invariant.1,
      ap (λ (x : List ℕ). set x (a.at + l.i) (get_or a.from.now l.i 0)) l.invariant.2
          ∙ over-take a.b.now a.at a.from.now l.i (omega (arith, c.loop-i-test.true)) (omega (arith, c.requires, c.loop-i-test.true)),
    )
