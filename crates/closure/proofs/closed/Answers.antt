use mathlib.Core.Path.{◌≡◌, ap, ◌∙◌}
use native.Mathlib.Omega.{arith}
use lib.ListN.{length, length-set}
use borrow.Author.Rules.{rules}
use Rattle.closure.proofs.ClosureLaws.{replaced, replaced_none, replaced_more, replaced_all}
use Rattle.closure.proofs.closed.Goals as goal

pub loop-k-init : goal.loop-k-init
loop-k-init c = let eight : length c.args.entries ≡ 8 = search rules in (eight, replaced_none c.args.entries c.args.used)

pub loop-k-preserved : goal.loop-k-preserved
loop-k-preserved c =
    let a = c.args in
    let l = c.loop-k in
    let eight : length a.entries ≡ 8 = search rules in (
      simp length-set l.invariant.0,
      replaced_more a.entries a.used (omega arith) l.sums l.k c.least_sum.result (omega arith) l.invariant.1 c.least_sum.ensures,
    )

pub returns : goal.returns
returns c =
    let a = c.args in
    let eight : length a.entries ≡ 8 = search rules in
    let all : c.loop-k.k ≡ a.used = omega arith in
    c.loop-k.invariant.1 ∙ ap (replaced a.entries a.used) all ∙ replaced_all a.entries a.used (omega arith)
