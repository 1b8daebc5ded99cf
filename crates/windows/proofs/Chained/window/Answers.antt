use mathlib.Core.Path.{sym, ap, ◌∙◌}
use native.Mathlib.Omega.{arith}
use Rattle.windows.specs.Parts.{found}
use Rattle.windows.proofs.SearchLaws.{window_start, window_hit, window_jump, window_end}
use Rattle.windows.proofs.FoundLaws.{found_some}
use Rattle.windows.proofs.Chained.window.Goals as goal

pub loop-length-init : goal.loop-length-init
loop-length-init c = (omega arith, window_start _ _)

pub returns-then-next-length : goal.returns-then-next-length
returns-then-next-length c =
    let self = c.args.self.now in
    let e = sym (window_hit self.table self.heads self.headed c.args.level _ _ _ c.demand-needed.ensures.0 c.reach-next.ensures c.loop-length-test.true c.if-next-length.true)
    ∙ c.loop-length.invariant.1 in
    (found_some _ (omega (arith, c.loop-length.invariant.0)) ∙ ap found e, omega (arith, e))

pub loop-length-preserved : goal.loop-length-preserved
loop-length-preserved c =
    let self = c.args.self.now in (
      omega arith,
      sym (window_jump self.table self.heads self.headed c.args.level _ _ _ c.demand-needed.ensures.0 c.reach-next.ensures c.if-next-length.false)
          ∙ c.loop-length.invariant.1,
    )

pub returns : goal.returns
returns c =
    let e = sym (window_end _ _ _ c.loop-length-test.false) ∙ c.loop-length.invariant.1 in
    (ap found e, omega (arith, e))
