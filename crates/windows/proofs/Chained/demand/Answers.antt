use mathlib.Core.Path.{sym, ◌∙◌}
use Rattle.ranges.specs.Sum.{sum as total}
use native.Mathlib.Omega.{arith}
use Rattle.windows.proofs.TableLaws.{costed}
use Rattle.windows.proofs.PartLaws.{head_within, head_spaced, work_of_lem, in_skip, in_add}
use Rattle.windows.proofs.Chained.demand.Goals as goal
use Rattle.windows.proofs.Chained.demand.Goals.{then-not-test_slot, else-not-test_slot}

pub loop-i-init : goal.loop-i-init
unfolding total
loop-i-init c = (omega arith, omega arith)

pub bounds-self-head : goal.bounds-self-head
bounds-self-head c = head_within _ _ c.args.self.now.headed _ c.loop-i-test.true

pub work-sum-requires : goal.work-sum-requires
work-sum-requires c =
    let headed = c.args.self.now.headed in
    let l = c.loop-i-test.true in
    (costed _ headed.sound _ l, head_spaced _ _ headed _ l, c.requires)

-- either way what is added is what the slot adds
pub loop-i-preserved : goal.loop-i-preserved
loop-i-preserved c =
    let t = c.args.self.now.table in
    let headed = c.args.self.now.headed in
    let inv = c.loop-i.invariant in
    let i = c.loop-i.i in
    elim c.if-not-test_slot.branch [
      | then-not-test_slot w ↦
          let e = w.work-sum.ensures.0 ∙ work_of_lem t i _ c.args.length (headed.headed i c.loop-i-test.true) in
          let out = sym c.test_slot.ensures ∙ w.if-not-test_slot.true in
          (w.sum-is ∙ in_add t c.args.level headed.sound c.args.length i _ _ out inv.0 e, omega (arith, w.sum-is, w.work-sum.ensures.1, inv.1))
      | else-not-test_slot w ↦
          let out = sym c.test_slot.ensures ∙ w.if-not-test_slot.false in
          (w.sum-is ∙ in_skip t c.args.level headed.sound c.args.length i _ c.loop-i-test.true out inv.0, omega (arith, w.sum-is, inv.1))
    ]
