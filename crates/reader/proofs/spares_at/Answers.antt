use mathlib.Core.Path.{◌≡◌, refl, sym, ap, ◌∙◌}
use native.Mathlib.Omega.{arith}
use lib.ListN.{get_or}
use Rattle.masks.specs.Mask.{gather}
use Rattle.reader.specs.Format.{spares_at}
use Rattle.masks.proofs.Gather.{gather_took, gather-left}
use Rattle.reader.proofs.spares_at.Invariants.{spare_in}
use Rattle.reader.proofs.spares_at.Goals as goal
use Rattle.reader.proofs.spares_at.Goals.{then-spare_at, else-spare_at}

pub loop-i-init : goal.loop-i-init
unfolding gather
loop-i-init c = refl

pub loop-i-preserved : goal.loop-i-preserved
loop-i-preserved c =
    let p = spare_in c.args.b.now in
    let l = c.loop-i in
    elim c.if-spare_at.branch [
      | then-spare_at w ↦ w.spares-is ∙ w.set_slot-spares.ensures ∙ gather_took p l.i l.spares l.invariant (sym c.spare_at.ensures ∙ w.if-spare_at.true)
      | else-spare_at w ↦ w.spares-is ∙ gather-left p l.i l.spares l.invariant (sym c.spare_at.ensures ∙ w.if-spare_at.false)
    ]

pub returns : goal.returns
unfolding spares_at
returns c =
    let all : c.loop-i.i ≡ get_or c.args.b.now 1 0 = omega arith in
    c.loop-i.invariant ∙ ap (gather (spare_in c.args.b.now)) all
