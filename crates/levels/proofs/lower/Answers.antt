use mathlib.Core.Path.{refl, sym, ap, ◌∙◌}
use mathlib.Core.Bool.{Bool}
use Prim.Native.Nat.{ℕ}
use native.Mathlib.Omega.{arith}
use Rattle.masks.specs.Mask.{gather}
use Rattle.masks.proofs.Gather.{gather_took, gather-left}
use Rattle.priority.specs.Priority.{precedes}
use Rattle.levels.specs.Levels.{lower_than}
use Rattle.levels.proofs.lower.Goals as goal
use Rattle.levels.proofs.lower.Goals.{then-goes_before, else-goes_before}

pub loop-i-init : goal.loop-i-init
unfolding gather
loop-i-init c = refl

-- either way the mask is that of one slot more
pub loop-i-preserved : goal.loop-i-preserved
loop-i-preserved c =
    let loop = c.loop-i in
    let p : ℕ → Bool = precedes c.args.t.now.table c.args.x in
    elim c.if-goes_before.branch [
      | then-goes_before w ↦ w.below-is ∙ w.set_slot-below.ensures ∙ gather_took p loop.i loop.below loop.invariant (sym c.goes_before.ensures ∙ w.if-goes_before.true)
      | else-goes_before w ↦ w.below-is ∙ gather-left p loop.i loop.below loop.invariant (sym c.goes_before.ensures ∙ w.if-goes_before.false)
    ]

pub returns : goal.returns
unfolding lower_than
returns c = c.loop-i.invariant ∙ ap (gather (precedes c.args.t.now.table c.args.x)) (omega arith)
