use mathlib.Core.Path.{◌≡◌, refl, ap, ◌∙◌}
use Prim.Native.Nat.{ℕ, suc, ◌-◌, min}
use native.Mathlib.Omega.{arith}
use borrow.Author.Rules.{rules}
use lib.ListN.{get_or}
use mir.Val.{Fits}
use mir.Syntax.{w16}
use Rattle.ranges.specs.Least.{smallest}
use Rattle.ranges.proofs.LeastLaws.{smallest_more}
use Rattle.curves.specs.Cost.{entry}
use Rattle.curves.proofs.CostLaws.{entry_at}
use Rattle.closure.proofs.least_sum.Invariants.{first_sum}
use Rattle.closure.proofs.least_sum.Goals as goal

pub loop-j-init : goal.loop-j-init
unfolding smallest
loop-j-init c = let whole : Fits w16 (get_or c.args.entries c.args.k 0) = search rules in (omega arith, refl)

pub loop-j-preserved : goal.loop-j-preserved
loop-j-preserved c =
    let a = c.args in
    let l = c.loop-j in
    let rest : entry a.sums (a.k - l.j) ≡ get_or a.sums (a.k - l.j - 1) 0 = entry_at a.sums (a.k - l.j) (omega arith) in
    let next : c.min-best.result ≡ min l.best (first_sum a.entries a.sums a.k l.j) = omega (arith, rest) in (
      omega (arith, next, l.invariant.0),
      next
          ∙ ap (λ (b : ℕ). min b (first_sum a.entries a.sums a.k l.j)) l.invariant.1
          ∙ smallest_more (entry a.entries (suc a.k)) (first_sum a.entries a.sums a.k) l.j,
    )
