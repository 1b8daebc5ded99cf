-- `sums_fault` meets its contract: the search over the entries is the test of each. Assumes nothing.
use mathlib.Core.Path.{refl, sym, ◌∙◌, ap}
use mathlib.Core.Bool.{Bool, not, ◌&&◌}
use native.Mathlib.Omega.{arith}
use Prim.Native.Nat.{ℕ}
use borrow.Author.Rules.{rules}
use borrow.Author.Tests.{tests}
use Rattle.ranges.specs.Every.{every}
use Rattle.ranges.proofs.AnyLaws.{any_range, not_every}
use Rattle.std.proofs.lemmas.Iterator.{YieldsList-from_range}
use Rattle.std.proofs.lemmas.Iterator.Search.{any_from_yields_List}
use Rattle.rules.specs.Rules.{joins, sums_fault}
use Rattle.rules.proofs.sums_fault.Goals as goal

pub returns-then-sums : goal.returns-then-sums
unfolding sums_fault
returns-then-sums c =
    let r = c.args.c in
    let above : ℕ → Bool = λ k. not (every k (joins r.entries k)) in
    any_from_yields_List above _ _ c.any.result c.any.ensures.ran (YieldsList-from_range 0 r.used r.used refl (omega arith)) (λ x b q k. search (rules, tests))
    ∙ any_range above r.used
    ∙ sym (not_every (λ k. every k (joins r.entries k)) r.used)
    ∙ ap (λ (b : Bool). b && sums_fault r) (sym c.if-sums.true)
