-- The status is one of the three.
use mathlib.Core.Path.{sym, subst}
use mathlib.Core.Bool.{Bool, true, false}
use mathlib.Core.List.{List}
use Prim.Native.Nat.{ℕ, ◌≤◌}
use native.Mathlib.Omega.{arith}
use Rattle.report.specs.Status.{failed, Ends}
use Rattle.report.proofs.StatusLaws.{printed_most}
use Rattle.report.proofs.fn.cuorfelt_bounds.on_input.Goals as goal

ends_most : (b : List ℕ) (u : Bool) (r : ℕ) → Ends b u r → r ≤ failed
unfolding Ends
ends_most b true r e = omega (arith, e)
ends_most b false r e = subst (λ (s : ℕ). s ≤ failed) (sym e.2) (printed_most e.0)

pub returns : goal.returns
returns c = ends_most _ _ _ c.conclude.ensures
