-- The status is one of the three.
use mathlib.Core.Path.{sym, subst}
use mathlib.Core.Bool.{Bool, true, false}
use mathlib.Core.List.{List}
use Prim.Native.Nat.{ℕ, ◌≤◌}
use native.Mathlib.Omega.{arith}
use Rattle.report.specs.Status.{failed}
use Rattle.report.specs.Rewrite.{Rewrites}
use Rattle.report.proofs.StatusLaws.{status_most}
use Rattle.report.proofs.rewrite.fn.cuorfelt_normalise_program.on_input.Goals as goal

rewrites_most : (b after : List ℕ) (u : Bool) (r : ℕ) → Rewrites b u after r → r ≤ failed
unfolding Rewrites
rewrites_most b after true r e = omega (arith, e.1)
rewrites_most b after false r e = subst (λ (s : ℕ). s ≤ failed) (sym e.2) (status_most e.0 _)

pub returns : goal.returns
returns c = rewrites_most _ _ _ _ c.conclude.ensures
