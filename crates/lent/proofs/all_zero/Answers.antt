use Rattle.lent.proofs.Spare.{zeros-none, zeros_more}
use native.Mathlib.Omega.{arith}
use Rattle.lent.proofs.all_zero.Goals as goal

pub loop-i-init : goal.loop-i-init
loop-i-init c = (omega arith, zeros-none c.args.b.now c.args.from)

pub loop-i-preserved : goal.loop-i-preserved
loop-i-preserved c =
    let l = c.loop-i in
    (omega arith, zeros_more c.args.b.now c.args.from l.i l.any l.auto.i l.invariant.1)
