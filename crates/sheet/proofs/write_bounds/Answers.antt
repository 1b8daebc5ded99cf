use mathlib.Core.Path.{ap₂, ◌∙◌}
use mathlib.Core.List.{List}
use Prim.Native.Nat.{ℕ}
use native.Mathlib.Omega.{arith}
use lib.ListN.{set}
use Rattle.sheet.proofs.RowLaws.{row_start, row_more}
use Rattle.sheet.proofs.write_bounds.Goals as goal

pub loop-i-init : goal.loop-i-init
loop-i-init c = row_start _ _

pub loop-i-preserved : goal.loop-i-preserved
loop-i-preserved c =
    let headed = c.args.t.now.headed in
    ap₂ (λ (l : List ℕ) (v : ℕ). set l c.loop-i.i v) c.loop-i.invariant c.bound.ensures.0
    ∙ row_more c.args.t.now.table _ c.loop-i.i (omega (arith, headed.sound.few))
