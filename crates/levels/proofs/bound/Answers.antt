-- `bound` meets its contract: the bound over all callbacks, or the smaller of it and that of the level.
use mathlib.Core.Path.{sym, ap₂, ◌∙◌}
use Prim.Native.Nat.{min}
use native.Mathlib.Omega.{arith}
use Rattle.levels.proofs.LevelLaws.{bound_first, bound_second}
use Rattle.levels.proofs.bound.Goals as goal

pub returns-then-overtakes : goal.returns-then-overtakes
returns-then-overtakes c =
    let all = c.bound_of_all-all.ensures in (
      c.min.ensures ∙ ap₂ min all.0 c.bound_of_level.ensures.0 ∙ sym (bound_second c.args.t.now.table c.args.x (sym c.overtakes.ensures ∙ c.if-overtakes.true)),
      omega (arith, c.min.ensures, all.1),
    )

pub returns : goal.returns
returns c =
    let all = c.bound_of_all-all.ensures in
    (all.0 ∙ sym (bound_first c.args.t.now.table c.args.x (sym c.overtakes.ensures ∙ c.if-overtakes.false)), all.1)
